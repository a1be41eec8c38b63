-- The catalog's change comes to a valid version.
use Rattle.std.proofs.Common.{◌≡◌, ℕ, zero, suc, ◌<◌, ◌≤◌, ◌^◌, Bool, true, false, List, [], ◌∷◌, length, refl, sym}
use Rattle.std.proofs.Common.{◌∙◌, ap, subst, arith, inl, inr, Some, None}
use Rattle.std.specs.Prelude.{codes, flat_map, filter, not, ◌==◌, ◌&&◌, ◌||◌, if◌then◌else◌}
use Rattle.std.specs.List.{AllByRecursion, list_any, find, range_with_len}
use Rattle.std.specs.Option.{option_map_or}
use Rattle.std.proofs.lemmas.Bool.{cases_Bool}
use Rattle.std.proofs.lemmas.Bool.Decides.{nat_tests}
use Rattle.std.proofs.lemmas.Slice.Eq.{bytes_eq-Decides}
use Rattle.std.proofs.lemmas.List.FromFn.{length-range_with_len}
use Rattle.dz_name.specs.Name.{IsName, wire_of, same_name, is_within}
use Rattle.dz_name.specs.Numbers.{four, number_of_four}
use Rattle.dz_name.specs.Order.{same_decides}
use Rattle.dz_name.specs.Text.{items, with_label, labels_from, name_of_text}
use Rattle.dz_name.specs.Words.{Name}
use Rattle.dz_name.specs.declared.dns.TheConstants.{TYPE_NS, TYPE_IXFR}
use Rattle.dz_record.specs.Record.{Record, same_record}
use Rattle.dz_record.specs.Records.{distinct, insertion, in_order}
use Rattle.dz_zone.specs.Valid.{at_apex, fault_of}
use Rattle.dz_zone.specs.Version.{Zone, zone_of}
use Rattle.dz_zone.proofs.FaultLemmas.{fault_in_order}
use Rattle.dz_settings.specs.declared.config.Policy.TheVariants.{Present}
use Rattle.dz_xfr.specs.Apex.{is_apex_soa, serial_of, held_serial}
use Rattle.dz_xfr.specs.Place.{amid, ended, read, said}
use Rattle.dz_ixfr.specs.Incremental.{is_there, without, others}
use Rattle.dz_ixfr.specs.Reading.{nothing, one, place_of}
use Rattle.dz_take.specs.Form.{form, settled, is_old_soa, checked, decision_of}
use Rattle.dz_take.specs.Outcome.{or_incomplete}
use Rattle.dz_take.specs.Transfer.{new}
use Rattle.dz_take.proofs.KindLemmas.{form_incremental}
use Rattle.dz_gen.specs.Texts.{named}
use Rattle.dz_gen.specs.Script.{numbers}
use Rattle.dz_gen.specs.Records.{hourly, soa, version_property, zone, node, group, member}
use Rattle.dz_gen.specs.Messages.{question, response}
use Rattle.dz_gen.specs.Outcomes.{next_of, Brings, CatalogChanges}
use Rattle.dz_gen.proofs.MessageLemmas.{IsZone}
use Rattle.dz_gen.proofs.ReadingLemmas.{zones}
use Rattle.dz_gen.proofs.SentLemmas.{IsSmall, same_number, one_decides}
use Rattle.dz_gen.proofs.SmallLemmas.{moved_named, catalog_named, soa_small, pointer_small}
use Rattle.dz_gen.proofs.SpelledLemmas.{four_digits, node_is, moved_is}
use Rattle.dz_gen.proofs.CanonicalLemmas.{canonical_twice, Respects, canonical_filter, not_false, filtered_any}
use Rattle.dz_gen.proofs.CanonicalLemmas.{canonical_any, same_respects, other_respects, same_parts, joins}
use Rattle.dz_gen.proofs.CatalogLemmas.{each_more, few_filter, few_members, ns_respects, all_append, any_no, none_kept}
use Rattle.dz_gen.proofs.CatalogLemmas.{all_filter, cat, IsBeside, catalog_is, below, kinds_differ, first, server}
use Rattle.dz_gen.proofs.CatalogLemmas.{first_small, version_beside, server_beside, node_small, group_small, zone_name}
use Rattle.dz_gen.proofs.CatalogLemmas.{members_beside, distinct_valid, zone_accepted}

-- ---- one change
abbrev node_one : Record
node_one = node (codes "m") 1

abbrev moved : Record
moved = node (codes "r") 1

abbrev second : Record
second = soa cat 2

-- the records of the change, one after the other
changes_read : (records : List Record) → is_there node_one records ≡ true
    → is_there (group 1) (without node_one records) ≡ true
    → is_there moved (without (group 1) (without node_one records)) ≡ false
    → read (one cat) (amid (nothing 1 records)) (second ∷ first ∷ node_one ∷ group 1 ∷ second ∷ moved ∷ second ∷ [])
    ≡ ended (insertion second (insertion moved (without (group 1) (without node_one records))))
unfolding name_of_text items labels_from with_label wire_of four number_of_four
changes_read records a b c = rw (a, b, c) refl

found : (p : Record → Bool) (rs more : List Record) (r : Record) → filter p rs ≡ r ∷ more → find p rs ≡ Some r
found p [] more r e = absurd (cc)
found p (s ∷ rs) more r e = elim (cases_Bool (p s)) [
  | inl t ↦ let h : s ∷ filter p rs ≡ r ∷ more = rw t at e in let same : s ≡ r = cc in rw t (ap (λ x. Some x) same)
  | inr f ↦ let h : filter p rs ≡ r ∷ more = rw f at e in rw f (found p rs more r h)
]

soa_respects : Respects (is_apex_soa cat)
soa_respects r s t = let same = same_parts r s t in rw (same.0, same.1.0) refl

in_three : (a b c d : Bool) → c ≡ true → (a || (b || (c || d))) ≡ true
in_three true b c d e = refl
in_three false true c d e = refl
in_three false false c d e = rw e refl

-- ---- the records
pub one_zone : IsZone 1
one_zone = record { some = omega arith; few = omega arith }

itself : (r : Record) → same_record r r ≡ true
itself r = rw (
  (same_decides r.owner r.owner).1 refl,
  (bytes_eq-Decides r.rdata r.rdata).1 refl,
  same_number r.kind,
) refl

-- no record but it is at the node of the other label
not_moved_node : (k : ℕ) → IsZone k → same_record moved (node (codes "m") k) ≡ false
not_moved_node k is =
    let f = four_digits k is.some is.few in
    let g = four_digits 1 one_zone.some one_zone.few in
    let owners : same_name moved.owner (node (codes "m") k).owner ≡ false = rw (moved_is 1 g, node_is k f) refl in
    rw owners refl

if_group_too : (k : ℕ) (b : Bool) → AllByRecursion (λ r. same_record moved r ≡ false) (if b then group k ∷ [] else [])
if_group_too k true = (kinds_differ moved (group k) refl, tt)
if_group_too k false = tt

members_apart : (ks : List ℕ) → AllByRecursion IsZone ks → AllByRecursion (λ r. same_record moved r
    ≡ false) (flat_map member ks)
members_apart [] all = tt
members_apart (k ∷ ks) all =
    all_append (λ r. same_record moved r ≡ false) (member k) (flat_map member ks) (
      not_moved_node k all.0,
      if_group_too k _,
    ) (members_apart ks all.1)

module _ (ks : List ℕ) (zones_are : AllByRecursion IsZone (1 ∷ ks)) (few : length ks ≤ 1000) where
  abbrev records : List Record
  records = first ∷ server ∷ version_property ∷ flat_map member (1 ∷ ks)

  abbrev bare : List Record
  bare = filter (λ r. not (is_apex_soa cat r)) records

  abbrev held : Zone
  held = zone_of cat records

  beside : AllByRecursion IsBeside (server ∷ version_property ∷ flat_map member (1 ∷ ks))
  beside = (server_beside first server refl refl refl refl, (version_beside, members_beside (1 ∷ ks) zones_are))

  abbrev left_now : List Record
  left_now = filter (λ s. not (same_record (group 1) s)) (filter (λ s. not (same_record node_one s)) bare)

  -- the held serial
  one_soa : filter (is_apex_soa cat) records ≡ first ∷ []
  one_soa = ap (λ xs. first ∷ xs) (none_kept (is_apex_soa cat) (server ∷ version_property ∷ flat_map member (1 ∷ ks))
      (each_more IsBeside (λ r. is_apex_soa cat r
      ≡ false) (λ r k. rw k.soa refl) (server ∷ version_property ∷ flat_map member (1 ∷ ks)) beside))

  found_soa : find (is_apex_soa cat) held.records ≡ Some first
  unfolding distinct in_order insertion
  found_soa = found (is_apex_soa cat) held.records [] first (canonical_filter
      (is_apex_soa cat) records soa_respects ∙ ap (λ (xs : List Record). in_order (distinct xs)) one_soa)

  first_serial : serial_of first ≡ 1
  unfolding name_of_text items labels_from with_label wire_of four number_of_four
  first_serial = refl

  second_serial : serial_of second ≡ 2
  unfolding name_of_text items labels_from with_label wire_of four number_of_four
  second_serial = refl

  serial_is : held_serial held ≡ 1
  serial_is = ap (λ o. option_map_or serial_of o 0) found_soa ∙ first_serial

  -- what is there
  others_are : others held ≡ in_order (distinct bare)
  others_are = canonical_filter (λ r. not (is_apex_soa cat r)) records (λ r s t. ap not (soa_respects r s t))

  after_node : without node_one (others held) ≡ in_order (distinct (filter (λ s. not (same_record node_one s)) bare))
  after_node = ap (without node_one) others_are
      ∙ canonical_filter (λ s. not (same_record node_one s)) bare (other_respects node_one)

  after_group : without (group 1) (without node_one (others held)) ≡ in_order (distinct left_now)
  after_group = ap (without (group 1)) after_node
      ∙ canonical_filter (λ s. not (same_record (group 1) s)) (filter (λ s. not (same_record node_one s)) bare)
      (other_respects (group 1))

  node_there : is_there node_one (others held) ≡ true
  node_there =
      ap (is_there node_one) others_are
      ∙ (canonical_any (same_record node_one) (same_respects node_one) bare
      ∙ in_three (same_record node_one server) (same_record node_one version_property)
      (same_record node_one node_one) _ (itself node_one))

  group_there : is_there (group 1) (without node_one (others held)) ≡ true
  group_there =
      let a = kinds_differ node_one server refl in
      let b = kinds_differ node_one version_property refl in
      let c = itself node_one in
      let d = kinds_differ node_one (group 1) refl in
      ap (is_there (group 1)) after_node
      ∙ (canonical_any (same_record (group 1)) (same_respects (group 1)) (filter (λ s. not
      (same_record node_one s)) bare)
      ∙ rw (a, b, c, d) (in_three (same_record (group 1) server) (same_record (group 1) version_property)
      (same_record (group 1) (group 1)) _ (itself (group 1))))

  apart : AllByRecursion (λ r. same_record moved r ≡ false) records
  apart = (
    kinds_differ moved first refl,
    (
      kinds_differ moved server refl,
      (kinds_differ moved version_property refl, members_apart (1 ∷ ks) zones_are),
    ),
  )

  moved_apart : list_any (same_record moved) left_now ≡ false
  moved_apart =
      any_no (same_record moved) left_now
      (all_filter (λ r. same_record moved r
      ≡ false) (λ s. not (same_record (group 1) s)) (filter (λ s. not (same_record node_one s)) bare)
      (all_filter (λ r. same_record moved r ≡ false) (λ s. not (same_record node_one s)) bare
      (all_filter (λ r. same_record moved r ≡ false) (λ r. not (is_apex_soa cat r)) records apart)))

  moved_absent : is_there moved (without (group 1) (without node_one (others held))) ≡ false
  moved_absent = ap (is_there moved) after_group
      ∙ (canonical_any (same_record moved) (same_respects moved) left_now ∙ moved_apart)

  -- ---- what is left, and what comes
  moved_beside : IsBeside moved
  moved_beside =
      let g = four_digits 1 one_zone.some one_zone.few in
      record {
        soa = refl;
        cname = refl;
        dname = refl;
        zonemd = refl;
        within = ap (λ o. is_within o cat) (moved_is 1 g)
            ∙ (below ((114 ∷ g.a ∷ g.b ∷ g.c ∷ g.d ∷ []) ∷ codes "zones" ∷ []));
      }

  bare_is : bare ≡ server ∷ version_property ∷ filter (λ r. not (is_apex_soa cat r)) (flat_map member (1 ∷ ks))
  bare_is = refl

  left_beside : AllByRecursion IsBeside left_now
  left_beside =
      all_filter IsBeside (λ s. not (same_record (group 1) s)) (filter (λ s. not (same_record node_one s)) bare)
      (all_filter IsBeside (λ s. not (same_record node_one s)) bare (
        beside.0,
        (
          version_beside,
          all_filter IsBeside (λ r. not (is_apex_soa cat r)) (flat_map member (1 ∷ ks)) (members_beside
              (1 ∷ ks) zones_are),
        ),
      ))

  abbrev after : List Record
  after = second ∷ moved ∷ left_now

  after_beside : AllByRecursion IsBeside (moved ∷ left_now)
  after_beside = (moved_beside, left_beside)

  second_apart : list_any (same_record second) (moved ∷ left_now) ≡ false
  second_apart =
      any_no (same_record second) (moved ∷ left_now)
      (each_more IsBeside (λ r. same_record second r
      ≡ false) (λ r k. kinds_differ second r (turned r.kind k.soa)) (moved ∷ left_now) after_beside)
    where
      turned : (n : ℕ) → (n == 6) ≡ false → (6 == n) ≡ false
      turned n f = grind (arith, nat_tests)

  end_is : insertion second (insertion moved (without (group 1) (without node_one (others held))))
      ≡ in_order (distinct after)
  end_is =
      ap (λ (rs : List Record). insertion second (insertion moved rs)) after_group
      ∙ (ap (insertion second) (joins moved left_now moved_apart) ∙ joins second (moved ∷ left_now) second_apart)

  all_read : place_of held (second ∷ first ∷ node_one ∷ group 1 ∷ second ∷ moved ∷ second ∷ [])
      ≡ ended (in_order (distinct after))
  all_read =
      ap (λ n. read (one cat) (amid (nothing n (others held)))
      (second ∷ first ∷ node_one ∷ group 1 ∷ second ∷ moved ∷ second ∷ [])) serial_is
      ∙ (changes_read (others held) node_there group_there moved_absent ∙ ap (λ (rs : List Record). ended rs) end_is)

  -- none of those that were taken away serves
  serves_still : list_any (at_apex TYPE_NS cat) (moved ∷ left_now) ≡ true
  serves_still =
      filtered_any (at_apex TYPE_NS cat) (λ s. not (same_record (group 1) s))
      (λ s gone. ns_respects (group 1) s (not_false (same_record (group 1) s) gone)) (filter (λ s. not
      (same_record node_one s)) bare)
      ∙ filtered_any (at_apex TYPE_NS cat) (λ s. not (same_record node_one s))
      (λ s gone. ns_respects node_one s (not_false (same_record node_one s) gone)) bare

  few_left : length (moved ∷ left_now) ≤ 20000
  few_left =
      let a = few_filter (λ s. not (same_record (group 1) s)) (filter (λ s. not (same_record node_one s)) bare) in
      let b = few_filter (λ s. not (same_record node_one s)) bare in
      let c = few_filter (λ r. not (is_apex_soa cat r)) records in
      let d = few_members (1 ∷ ks) in
      omega arith

  end_valid : fault_of cat (distinct (in_order (distinct after))) ≡ None
  end_valid =
      sym (fault_in_order cat (distinct (in_order (distinct after))))
      ∙ (ap (fault_of cat) (canonical_twice after)
      ∙ (fault_in_order cat (distinct after)
      ∙ distinct_valid second refl refl (moved ∷ left_now) after_beside serves_still few_left))

  module _ (id : ℕ) (small : id < 2 ^ 16) where
    unsettled : settled (Some held) second ≡ None
    unsettled = rw (serial_is, second_serial) refl

    old_soa : is_old_soa cat second first ≡ true
    old_soa = rw (first_serial, second_serial) refl

    changes_decide : form (next_of held id) (second ∷ first ∷ node_one ∷ group 1 ∷ second ∷ moved ∷ second ∷ [])
        ≡ Some (new (zone_of cat after))
    changes_decide =
        form_incremental (next_of held id) held
        (second ∷ first ∷ node_one ∷ group 1 ∷ second ∷ moved ∷ second ∷ []) (record {
          first = second;
          second = first;
          rest = node_one ∷ group 1 ∷ second ∷ moved ∷ second ∷ [];
          are = refl;
          opens = record { soa = refl; unsettled = unsettled };
          base = refl;
          kind = old_soa;
        })
        ∙ (ap (λ p. decision_of cat (said p)) all_read
        ∙ (ap (λ fault. Some (checked cat (in_order (distinct after)) fault)) end_valid
        ∙ ap (λ (rs : List Record). Some (new (record { apex = cat; records = rs }))) (canonical_twice after)))

    second_small : IsSmall second
    second_small = soa_small cat (subst IsName catalog_is catalog_named) 2

    moved_small : IsSmall moved
    moved_small =
        let g = four_digits 1 one_zone.some one_zone.few in
        pointer_small moved.owner (subst IsName (sym (moved_is 1 g)) (moved_named g.a g.b g.c g.d g.digits))
        (zone 1) (zone_name 1 one_zone)

    changes_come : Brings Present (next_of held id) (response id (question cat TYPE_IXFR ∷ [])
        (second ∷ first ∷ node_one ∷ group 1 ∷ second ∷ moved ∷ second ∷ [])) (zone_of cat after)
    changes_come = record {
      comes =
          one_decides (next_of held id) (subst IsName catalog_is catalog_named) small
          (second ∷ first ∷ node_one ∷ group 1 ∷ second ∷ moved ∷ second ∷ []) (
            second_small,
            (
              first_small,
              (
                node_small 1 one_zone,
                (
                  group_small 1 one_zone,
                  (
                    second_small,
                    (moved_small, (second_small, tt)),
                  ),
                ),
              ),
            ),
          )
          (omega arith) ∙ ap or_incomplete changes_decide;
      accepted = zone_accepted second refl refl (moved ∷ left_now) after_beside;
    }

-- ---- the change of the script
thrice : (a b c : Record → Bool) (rs : List Record) → filter (λ r. a r && (b r && c r)) rs
    ≡ filter c (filter b (filter a rs))
thrice a b c [] = refl
thrice a b c (r ∷ rs) = elim (cases_Bool (a r)) [
  | inr f ↦ rw f (thrice a b c rs)
  | inl t ↦ elim (cases_Bool (b r)) [
    | inr g ↦ rw (t, g) (thrice a b c rs)
    | inl u ↦ elim (cases_Bool (c r)) [
      | inr h ↦ rw (t, u, h) (thrice a b c rs)
      | inl v ↦ rw (t, u, v) (ap (λ xs. r ∷ xs) (thrice a b c rs))
    ]
  ]
]

abbrev all_of : Name → ℕ → List Record
all_of c n = soa c 1 ∷ hourly c TYPE_NS (wire_of (named (codes "invalid."))) ∷ version_property ∷ flat_map member
    (numbers n)

abbrev Changed : ℕ → ℕ → Name → Type 0
Changed n id c = Brings Present (next_of (zone_of c (all_of c n)) id)
    (response id (question c TYPE_IXFR ∷ [])
    (soa c 2 ∷ soa c 1 ∷ node_one ∷ group 1 ∷ soa c 2 ∷ moved ∷ soa c 2 ∷ []))
    (zone_of c (soa c 2 ∷ moved ∷ filter (λ r. not (is_apex_soa c r) && (not (same_record node_one r) && not
    (same_record (group 1) r))) (all_of c n)))

module _ (n id : ℕ) (few : suc n ≤ 1000) (small : id < 2 ^ 16) where
  left_is : filter (λ r. not (is_apex_soa cat r) && (not (same_record node_one r) && not (same_record
      (group 1) r))) (all_of cat (suc n))
      ≡ left_now (range_with_len 2 n) (zones (suc n) few) (omega (arith, few, length-range_with_len 2 n))
  left_is = thrice (λ r. not (is_apex_soa cat r)) (λ s. not (same_record node_one s)) (λ s. not (same_record
      (group 1) s)) (all_of cat (suc n))

  changed : Changed (suc n) id cat
  changed =
      subst (λ (rs : List Record). Brings Present (next_of (zone_of cat (all_of cat (suc n))) id)
      (response id (question cat TYPE_IXFR ∷ []) (second ∷ first ∷ node_one ∷ group 1 ∷ second ∷ moved ∷ second ∷ []))
      (zone_of cat (second ∷ moved ∷ rs))) (sym left_is)
      (changes_come (range_with_len 2 n) (zones (suc n) few) (omega (arith, few, length-range_with_len 2 n)) id small)

pub catalog_changes : (n id : ℕ) → CatalogChanges n id
catalog_changes zero id some few small = absurd (omega arith)
catalog_changes (suc n) id some few small = subst (Changed (suc n) id) (sym catalog_is) (changed n id few small)
