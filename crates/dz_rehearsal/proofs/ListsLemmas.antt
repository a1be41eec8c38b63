-- The generated catalog lists the nodes that it is meant to list.
use Rattle.std.proofs.Common.{◌≡◌, ℕ, zero, suc, ◌<◌, ◌≤◌, Bool, true, false, List, [], ◌∷◌, ◌++◌, map, length, Some}
use Rattle.std.proofs.Common.{None, Ok, refl, sym, ◌∙◌, ap, subst, arith, inl, inr, is_lt, append-nil}
use Rattle.std.specs.Prelude.{codes, filter, flat_map, ◌==◌, nat_lt, if◌then◌else◌}
use Rattle.std.specs.List.{AllByRecursion, list_any, range_with_len}
use Rattle.std.specs.List.Sorted.{ties}
use Rattle.std.proofs.lemmas.Bool.{cases_Bool}
use Rattle.std.proofs.lemmas.Bool.Decides.{nat_tests}
use Rattle.std.proofs.lemmas.List.{length-map, map-append}
use Rattle.std.proofs.lemmas.List.Elements.{filter-append}
use Rattle.std.proofs.lemmas.List.FromFn.{length-range_with_len}
use Rattle.std.proofs.lemmas.Slice.Eq.{bytes_eq-Decides}
use Rattle.dz_name.specs.Words.{Name, Octets}
use Rattle.dz_name.specs.Name.{IsLabel, IsName, canonical_order, label_order, same_label, same_name, wire_of}
use Rattle.dz_name.specs.Order.{canonical_total, label_total, same_decides, same_label_decides}
use Rattle.dz_name.specs.Text.{items, with_label, labels_from, name_of_text}
use Rattle.dz_record.specs.Record.{Record, same_record}
use Rattle.dz_record.specs.Records.{distinct, in_order}
use Rattle.dz_zone.proofs.RecordLemmas.{before, same_before}
use Rattle.dz_member.specs.declared.listing.Node.{Node}
use Rattle.dz_member.specs.Listing.{same_zone}
use Rattle.dz_member.specs.Sorting.{insert_by, sorted_by}
use Rattle.dz_member.proofs.WalkLemmas.{apart}
use Rattle.dz_settings.specs.Twice.{has_twice}
use Rattle.dz_catalog.specs.Listing.{listing_of}
use Rattle.dz_producer.specs.Faults.{same_node, has_bad_group}
use Rattle.dz_producer.specs.Laws.{IsNode, octets_before, with_sorted_groups, label_before, in_label_order}
use Rattle.dz_producer.specs.Records.{owner_of, node_records, group_records, digest, plain_records}
use Rattle.dz_producer.specs.Records as made
use Rattle.dz_producer.proofs.ListingLemmas.{NoFault}
use Rattle.dz_producer.proofs.ListingLemmas as producer
use Rattle.dz_producer.proofs.OwnerLemmas.{same_owner, owners_differ, kinds_differ, not_longer}
use Rattle.dz_producer.proofs.OwnerLemmas as producer_owners
use Rattle.dz_producer.proofs.RecordLemmas.{all_append, all_node, all_nodes}
use Rattle.dz_gen.specs.Texts.{digits}
use Rattle.dz_gen.specs.Records.{soa, catalog, version_property, zone, node, group, is_strict, member}
use Rattle.dz_gen.specs.Script.{numbers}
use Rattle.dz_gen.specs.Outcomes.{catalog_records, catalog_version, changed_version, is_left}
use Rattle.dz_gen.specs.Reading.{cat_test}
use Rattle.dz_gen.proofs.CanonicalLemmas.{canonical_same, same_parts}
use Rattle.dz_gen.proofs.CatalogLemmas.{zone_name}
use Rattle.dz_gen.proofs.ChangedLemmas.{one_zone}
use Rattle.dz_gen.proofs.MessageLemmas.{IsZone}
use Rattle.dz_gen.proofs.SentLemmas.{same_number}
use Rattle.dz_gen.proofs.SmallLemmas.{node_named, moved_named}
use Rattle.dz_gen.proofs.SpelledLemmas.{IsFour, four_digits, node_is, moved_is, group_is}
use Rattle.dz_rehearsal.specs.Life.{node_of, renamed, first_nodes, changed_nodes, Lists}
use Rattle.dz_rehearsal.proofs.LifeLemmas.{either}
use Rattle.dz_rehearsal.proofs.MembersLemmas.{nodes_are}
use Rattle.dz_rehearsal.proofs.PlainLemmas.{tells, bare, plain, listing_plain}
use Rattle.dz_rehearsal.proofs.RiseLemmas.{zone_less, label_of, label_less, label_greater, moved_last, Rising}
use Rattle.dz_rehearsal.proofs.RiseLemmas.{range_rising, range_zones, sorted_stays, goes_last}

-- ---- what the producer would make of nodes
all_kept : (p : Record → Bool) (rs : List Record) → AllByRecursion (λ r. p r ≡ true) rs → filter p rs ≡ rs
all_kept p [] h = refl
all_kept p (r ∷ rs) h = rw h.0 (ap (λ (xs : List Record). r ∷ xs) (all_kept p rs h.1))

abbrev produced_records : List Node → List Record
produced_records nodes = made.all_records cat_test 1 nodes

-- they are one TXT record, and the records of each node
plain_produced : (nodes : List Node) → plain (produced_records nodes)
    ≡ bare (made.version_property cat_test) ∷ map bare (flat_map (node_records cat_test) nodes)
plain_produced nodes =
    let flat : List Record = flat_map (node_records cat_test) nodes in
    let zonemd : Record = digest cat_test 1 (plain_records cat_test 1 nodes) in
    let each = all_nodes (λ r. tells r
    ≡ true) cat_test (λ n. all_node (λ r. tells r ≡ true) cat_test n refl (λ c. refl) (λ g. refl)) nodes in
    ap (λ (xs : List Record). bare (made.version_property cat_test) ∷ map bare xs)
    (filter-append tells flat (zonemd ∷ []) ∙ (append-nil (filter tells flat) ∙ all_kept tells flat each))

-- ---- the generated records
members_tell : (ks : List ℕ) → AllByRecursion (λ r. tells r ≡ true) (flat_map member ks)
members_tell [] = tt
members_tell (k ∷ ks) = all_append (λ r. tells r ≡ true) (member k) (flat_map member ks) (
  refl,
  either (AllByRecursion (λ r. tells r ≡ true)) (is_strict k) (group k ∷ []) [] (refl, tt) tt,
) (members_tell ks)

-- the version property is the same but for its TTL
version_is : bare version_property ≡ bare (made.version_property cat_test)
unfolding name_of_text items labels_from with_label wire_of
version_is = refl

module _ (k : ℕ) (is : IsZone k) where
  abbrev f : IsFour (digits k)
  f = four_digits k is.some is.few

  owner_is : (node (codes "m") k).owner ≡ owner_of cat_test (node_of k)
  owner_is = node_is k f ∙ ap (λ ds. (109 ∷ ds) ∷ codes "zones" ∷ cat_test) (sym f.are)

  group_owner_is : (group k).owner ≡ codes "group" ∷ owner_of cat_test (node_of k)
  group_owner_is = group_is k f ∙ ap (λ ds. codes "group" ∷ (109 ∷ ds) ∷ codes "zones" ∷ cat_test) (sym f.are)

  -- the group's record is that of its node
  groups_same : (b : Bool) → map bare (if b then group k ∷ [] else [])
      ≡ map bare (group_records (owner_of cat_test (node_of k)) (if b then (6 ∷ codes "strict") ∷ [] else []))
  groups_same true = ap (λ o. record {
    owner = o;
    kind = 16;
    ttl = 0;
    rdata = 6 ∷ codes "strict";
  } ∷ []) group_owner_is
  groups_same false = refl

  -- they are those of its node
  member_same : map bare (member k) ≡ map bare (node_records cat_test (node_of k))
  unfolding node_records
  member_same =
      ap (λ o. record {
        owner = o;
        kind = 12;
        ttl = 0;
        rdata = wire_of (zone k);
      } ∷ map bare (if is_strict k then group k ∷ [] else [])) owner_is
      ∙ ap (λ (xs : List Record). bare (made.member cat_test (node_of k)) ∷ xs) (groups_same (is_strict k))

members_same : (ks : List ℕ) → AllByRecursion IsZone ks → map bare (flat_map member ks)
    ≡ map bare (flat_map (node_records cat_test) (map node_of ks))
members_same [] zs = refl
members_same (k ∷ ks) zs =
    map-append bare (member k) (flat_map member ks)
    ∙ (ap (λ (xs : List Record). xs ++ map bare (flat_map member ks)) (member_same k zs.0)
    ∙ (ap (λ (xs : List Record). map bare (node_records cat_test (node_of k)) ++ xs) (members_same ks zs.1)
    ∙ sym (map-append bare (node_records cat_test (node_of k)) (flat_map (node_records cat_test) (map node_of ks)))))

-- ---- the nodes have no fault
any_not : {X : Type 0} (p : X → Bool) (f : ℕ → X) (ks : List ℕ) → AllByRecursion (λ k. p (f k) ≡ false) ks
    → list_any p (map f ks) ≡ false
any_not p f [] h = refl
any_not p f (k ∷ ks) h = rw h.0 (any_not p f ks h.1)

-- what differs from number to number is there once
module _ {X : Type 0} (same : X → X → Bool) (f : ℕ → X) (differ : (j k : ℕ) → IsZone j → IsZone k → j < k
    → same (f j) (f k) ≡ false) where
  later_differ : (j : ℕ) → IsZone j → (ks : List ℕ) → AllByRecursion IsZone ks → AllByRecursion (λ k. j < k) ks
      → AllByRecursion (λ k. same (f j) (f k) ≡ false) ks
  later_differ j is [] zs above = tt
  later_differ j is (k ∷ ks) zs above = (differ j k is zs.0 above.0, later_differ j is ks zs.1 above.1)

  once : (ks : List ℕ) → AllByRecursion IsZone ks → Rising ks → has_twice same (map f ks) ≡ false
  once [] zs up = refl
  once (k ∷ ks) zs up = rw (any_not (same (f k)) f ks (later_differ k zs.0 ks zs.1 up.0)) (once ks zs.1 up.1)

-- labels and zones differ from number to number
labels_differ : (j k : ℕ) → IsZone j → IsZone k → j < k → same_node (node_of j) (node_of k) ≡ false
labels_differ j k is also l = apart label_order label_total same_label same_label_decides (label_of j) (label_of k)
    (label_less j k is also l)

zones_differ : (j k : ℕ) → IsZone j → IsZone k → j < k → same_zone (node_of j) (node_of k) ≡ false
zones_differ j k is also l = apart canonical_order canonical_total same_name same_decides (zone j) (zone k)
    (zone_less j k is also l)

good_groups : (k : ℕ) → has_bad_group (node_of k) ≡ false
good_groups k = by_group (is_strict k)
  where
    by_group : (b : Bool) → has_bad_group
        (record { label = []; zone = []; coo = None; groups = if b then (6 ∷ codes "strict") ∷ [] else [] }) ≡ false
    by_group true = refl
    by_group false = refl

few_nodes : (ks : List ℕ) → length ks ≤ 1000 → nat_lt 65536 (length (map node_of ks)) ≡ false
few_nodes ks few = let n = length-map ks node_of in grind (arith, nat_tests)

-- so the producer finds no fault
no_fault : (ks : List ℕ) → AllByRecursion IsZone ks → Rising ks → length ks ≤ 1000 → NoFault (map node_of ks)
no_fault ks zs up few = record {
  labels = once same_node node_of labels_differ ks zs up;
  groups = any_not has_bad_group node_of ks (producer.all_of (λ k. has_bad_group (node_of k) ≡ false) good_groups ks);
  few = few_nodes ks few;
  zones = once same_zone node_of zones_differ ks zs up;
}

none_is : (x : Name) → None ≡ Some x → IsName x
none_is x e = absurd (cc)

-- a node has a label and a name
node_fine : (k : ℕ) → IsZone k → IsNode (node_of k)
node_fine k is =
    let g = four_digits k is.some is.few in
    record {
      label = subst (λ (ds : Octets). IsLabel (109 ∷ ds)) (sym g.are) (node_named g.a g.b g.c g.d g.digits).each.0;
      zone = zone_name k is;
      coo = none_is;
    }

nodes_fine : (ks : List ℕ) → AllByRecursion IsZone ks → AllByRecursion IsNode (map node_of ks)
nodes_fine [] zs = tt
nodes_fine (k ∷ ks) zs = (node_fine k zs.0, nodes_fine ks zs.1)

-- ---- the nodes in order
groups_sorted : (ks : List ℕ) → map with_sorted_groups (map node_of ks) ≡ map node_of ks
groups_sorted [] = refl
groups_sorted (k ∷ ks) =
    ap (λ gs. record {
      label = label_of k;
      zone = zone k;
      coo = None;
      groups = gs;
    } ∷ map with_sorted_groups (map node_of ks)) (by_group (is_strict k))
    ∙ ap (λ ns. node_of k ∷ ns) (groups_sorted ks)
  where
    by_group : (b : Bool) → sorted_by octets_before (if b then (6 ∷ codes "strict") ∷ [] else [])
        ≡ (if b then (6 ∷ codes "strict") ∷ [] else [])
    by_group true = refl
    by_group false = refl

-- the label of a greater number comes later
label_later : (j k : ℕ) → IsZone j → IsZone k → j < k → label_before (node_of k) (node_of j) ≡ false
label_later j k is also l = ap is_lt (label_greater j k is also l)

nodes_ordered : (ks : List ℕ) → AllByRecursion IsZone ks → Rising ks → in_label_order (map node_of ks)
    ≡ map node_of ks
nodes_ordered ks zs up = ap (sorted_by label_before) (groups_sorted ks)
    ∙ sorted_stays label_before node_of label_later ks zs up

-- ---- the catalog with serial 1
lists_first : (n : ℕ) → n ≤ 1000 → listing_of cat_test (catalog_version n).records ≡ Ok (first_nodes n)
lists_first n few =
    let ks = numbers n in
    let zs = range_zones 1 n (omega arith) (omega arith) in
    let up = range_rising 1 n in
    let size : length ks ≤ 1000 = omega (arith, few, length-range_with_len 1 n) in
    let same : plain (catalog_records n) ≡ plain (produced_records (map node_of ks)) =
    ap (λ (xs : List Record). bare version_property ∷ map bare xs)
    (all_kept tells (flat_map member ks) (members_tell ks))
    ∙ (ap (λ (r : Record). r ∷ map bare (flat_map member ks)) version_is
    ∙ (ap (λ (xs : List Record). bare (made.version_property cat_test) ∷ xs) (members_same ks zs)
    ∙ sym (plain_produced (map node_of ks)))) in
    listing_plain cat_test (catalog_records n)
    ∙ (ap (λ (xs : List Record). listing_of cat_test (in_order (distinct xs))) same
    ∙ (sym (listing_plain cat_test (produced_records (map node_of ks)))
    ∙ (producer.lists cat_test 1 (map node_of ks) (no_fault ks zs up size) (nodes_fine ks zs)
    ∙ ap (λ ns. Ok ns) (nodes_ordered ks zs up))))

-- ---- what is left of the catalog by its change
abbrev node_one : Record
node_one = node (codes "m") 1

abbrev moved : Record
moved = node (codes "r") 1

itself : (r : Record) → same_record r r ≡ true
itself r = rw (
  (same_decides r.owner r.owner).1 refl,
  (bytes_eq-Decides r.rdata r.rdata).1 refl,
  same_number r.kind,
) refl

-- the first zone's node and group have owners of their own
first_label_alone : (k : ℕ) → IsZone k → 1 < k → owner_of cat_test (node_of 1) ≡ owner_of cat_test (node_of k) → ⊥
first_label_alone k is l e =
    let one : label_of 1 ≡ label_of k = cc in
    producer_owners.labels_differ (label_of 1) (label_of k) (labels_differ 1 k one_zone is l) one

nodes_apart : (k : ℕ) → IsZone k → 1 < k → same_record node_one (node (codes "m") k) ≡ false
nodes_apart k is l = owners_differ same_record same_owner node_one (node (codes "m") k)
    (λ e. first_label_alone k is l (sym (owner_is 1 one_zone) ∙ (e ∙ owner_is k is)))

groups_apart : (k : ℕ) → IsZone k → 1 < k → same_record (group 1) (group k) ≡ false
groups_apart k is l = owners_differ same_record same_owner (group 1) (group k)
    (λ e.
    let both : codes "group" ∷ owner_of cat_test (node_of 1) ≡ codes "group" ∷ owner_of cat_test (node_of k) =
    sym (group_owner_is 1 one_zone) ∙ (e ∙ group_owner_is k is) in
    let one : owner_of cat_test (node_of 1) ≡ owner_of cat_test (node_of k) = cc in
    first_label_alone k is l one)

version_owner : version_property.owner ≡ codes "version" ∷ cat_test
unfolding name_of_text items labels_from with_label wire_of
version_owner = refl

version_apart : same_record (group 1) version_property ≡ false
version_apart = owners_differ same_record same_owner (group 1) version_property
    (λ e.
    let both : codes "group" ∷ owner_of cat_test (node_of 1) ≡ codes "version" ∷ cat_test =
    sym (group_owner_is 1 one_zone) ∙ (e ∙ version_owner) in
    not_longer (codes "group" ∷ owner_of cat_test (node_of 1)) (codes "version" ∷ cat_test) 1 (omega arith) both)

-- the change leaves the version property, and takes the first zone's node and group
version_left : is_left version_property ≡ true
version_left = rw (kinds_differ node_one version_property refl, version_apart) refl

node_gone : is_left node_one ≡ false
node_gone = rw (itself node_one) refl

group_gone : is_left (group 1) ≡ false
group_gone = rw (kinds_differ node_one (group 1) refl, itself (group 1)) refl

-- it leaves the records of the other zones
node_left : (k : ℕ) → IsZone k → 1 < k → is_left (node (codes "m") k) ≡ true
node_left k is l = rw (nodes_apart k is l, kinds_differ (group 1) (node (codes "m") k) refl) refl

group_left : (k : ℕ) → IsZone k → 1 < k → is_left (group k) ≡ true
group_left k is l = rw (kinds_differ node_one (group k) refl, groups_apart k is l) refl

-- all records of the other zones are left
members_left : (ks : List ℕ) → AllByRecursion IsZone ks → AllByRecursion (λ k. 1 < k) ks
    → AllByRecursion (λ r. is_left r ≡ true) (flat_map member ks)
members_left [] zs above = tt
members_left (k ∷ ks) zs above =
    all_append (λ r. is_left r ≡ true) (member k) (flat_map member ks) (
      node_left k zs.0 above.0,
      either (AllByRecursion (λ r. is_left r ≡ true)) (is_strict k) (group k ∷ []) []
          (group_left k zs.0 above.0, tt) tt,
    ) (members_left ks zs.1 above.1)

left_is : (ks : List ℕ) → AllByRecursion IsZone ks → AllByRecursion (λ k. 1 < k) ks
    → filter is_left (version_property ∷ node_one ∷ group 1 ∷ flat_map member ks)
    ≡ version_property ∷ flat_map member ks
left_is ks zs above = rw (
  version_left,
  node_gone,
  group_gone,
) (ap (λ (xs : List Record). version_property ∷ xs)
    (all_kept is_left (flat_map member ks) (members_left ks zs above)))

-- two records of two types change places
not_tied : (z a b : Record) → (a.kind == b.kind) ≡ false → ties before z a ≡ true → ties before z b ≡ false
not_tied z a b differ t = elim (cases_Bool (ties before z b)) [
  | inr f ↦ f
  | inl u ↦
      let one = (same_parts z a (same_before z a ∙ t)).1.0 in
      let two = (same_parts z b (same_before z b ∙ u)).1.0 in
      let same : a.kind ≡ b.kind = sym one ∙ two in
      let tied : (a.kind == b.kind) ≡ true = ap (λ m. m == b.kind) same ∙ same_number b.kind in
      absurd (cc)
]

swapped : (a b : Record) (rs : List Record) → (a.kind == b.kind) ≡ false → in_order (distinct (a ∷ b ∷ rs))
    ≡ in_order (distinct (b ∷ a ∷ rs))
swapped a b rs differ = canonical_same (a ∷ b ∷ rs) (b ∷ a ∷ rs) (λ z. elim (cases_Bool (ties before z a)) [
  | inr f ↦ rw f refl
  | inl t ↦ rw (t, not_tied z a b differ t) refl
])

module _ (n : ℕ) (few : suc n ≤ 1000) where
  abbrev ks : List ℕ
  ks = range_with_len 2 n

  zs : AllByRecursion IsZone (1 ∷ ks)
  zs = range_zones 1 (suc n) (omega arith) (omega arith)

  up : Rising (1 ∷ ks)
  up = range_rising 1 (suc n)

  abbrev changed_records : List Record
  changed_records = soa catalog 2 ∷ moved ∷ filter is_left (catalog_records (suc n))

  told : filter tells (catalog_records (suc n)) ≡ version_property ∷ node_one ∷ group 1 ∷ flat_map member ks
  told = ap (λ (xs : List Record). version_property ∷ xs)
      (all_kept tells (flat_map member (1 ∷ ks)) (members_tell (1 ∷ ks)))

  -- the changed version, without what tells nothing
  plain_changed : plain changed_records ≡ bare moved ∷ bare version_property ∷ map bare (flat_map member ks)
  plain_changed = ap (λ (xs : List Record). bare moved ∷ map bare xs)
      (producer.two_filters tells is_left (catalog_records (suc n))
      ∙ (ap (filter is_left) told ∙ left_is ks zs.1 up.0))

  -- what the producer would make of the nodes, the moved one first
  abbrev nodes : List Node
  nodes = renamed ∷ map node_of ks

  -- the moved node's record is that of its node
  moved_same : bare moved ≡ bare (made.member cat_test renamed)
  moved_same =
      let g = four_digits 1 one_zone.some one_zone.few in
      let owner : moved.owner ≡ owner_of cat_test renamed = moved_is 1 g
      ∙ ap (λ ds. (114 ∷ ds) ∷ codes "zones" ∷ cat_test) (sym g.are) in
      ap (λ o. record { owner = o; kind = 12; ttl = 0; rdata = wire_of (zone 1) }) owner

  plain_nodes : plain (produced_records nodes)
      ≡ bare (made.version_property cat_test) ∷ bare (made.member cat_test renamed) ∷ map bare
      (flat_map (node_records cat_test) (map node_of ks))
  unfolding node_records
  plain_nodes = plain_produced nodes

  -- both have the same records in canonical order
  same_canonical : in_order (distinct (plain changed_records)) ≡ in_order (distinct (plain (produced_records nodes)))
  same_canonical =
      ap (λ (xs : List Record). in_order (distinct xs)) plain_changed
      ∙ (swapped (bare moved) (bare version_property) (map bare (flat_map member ks)) refl
      ∙ ap (λ (xs : List Record). in_order (distinct xs))
      (ap (λ (r : Record). r ∷ bare moved ∷ map bare (flat_map member ks)) version_is
      ∙ (ap (λ (r : Record). bare (made.version_property cat_test) ∷ r ∷ map bare (flat_map member ks)) moved_same
      ∙ (ap (λ (xs : List Record). bare (made.version_property cat_test) ∷ bare (made.member cat_test renamed) ∷ xs)
      (members_same ks zs.1)
      ∙ sym plain_nodes))))

  all_size : length ks ≤ 1000
  all_size = omega (arith, few, length-range_with_len 2 n)

  all_few : nat_lt 65536 (length nodes) ≡ false
  all_few = let m = length-map ks node_of in let size = all_size in grind (arith, nat_tests)

  first_zone_apart : (js : List ℕ) → AllByRecursion IsZone js → AllByRecursion (λ j. 1 < j) js
      → AllByRecursion (λ j. same_zone renamed (node_of j) ≡ false) js
  first_zone_apart [] are above = tt
  first_zone_apart (j ∷ js) are above = (zones_differ 1 j one_zone are.0 above.0, first_zone_apart js are.1 above.1)

  -- the changed nodes have no fault
  all_no_fault : NoFault nodes
  all_no_fault =
      let rest = no_fault ks zs.1 up.1 all_size in
      record {
        labels = rw (any_not (same_node renamed) node_of ks
            (producer.all_of (λ k. same_node renamed (node_of k) ≡ false) (λ k. refl) ks)) rest.labels;
        groups = rest.groups;
        few = all_few;
        zones = rw (any_not (same_zone renamed) node_of ks (first_zone_apart ks zs.1 up.0)) rest.zones;
      }

  renamed_fine : IsNode renamed
  renamed_fine =
      let g = four_digits 1 one_zone.some one_zone.few in
      record {
        label = subst (λ (ds : Octets). IsLabel (114 ∷ ds)) (sym g.are) (moved_named g.a g.b g.c g.d g.digits).each.0;
        zone = zone_name 1 one_zone;
        coo = none_is;
      }

  -- in the order of labels the moved node is the last
  all_ordered : in_label_order nodes ≡ map node_of ks ++ renamed ∷ []
  all_ordered =
      ap (λ ns. sorted_by label_before (renamed ∷ ns)) (groups_sorted ks)
      ∙ (ap (insert_by label_before renamed) (sorted_stays label_before node_of label_later ks zs.1 up.1)
      ∙ goes_last label_before node_of label_later renamed ks
      (producer.all_of (λ k. label_before (node_of k) renamed ≡ true) (λ k. ap is_lt (moved_last k)) ks))

  lists_changed : listing_of cat_test (changed_version (suc n)).records ≡ Ok (changed_nodes (suc n))
  lists_changed =
      listing_plain cat_test changed_records
      ∙ (ap (listing_of cat_test) same_canonical
      ∙ (sym (listing_plain cat_test (produced_records nodes))
      ∙ (producer.lists cat_test 1 nodes all_no_fault (renamed_fine, nodes_fine ks zs.1)
      ∙ (ap (λ ns. Ok ns) all_ordered ∙ ap (λ ns. Ok ns) (sym (nodes_are n))))))

changed_lists : (n : ℕ) → 0 < n → n ≤ 1000 → listing_of cat_test (changed_version n).records ≡ Ok (changed_nodes n)
changed_lists zero some few = absurd (omega arith)
changed_lists (suc n) some few = lists_changed n few

-- the catalog lists its nodes, before and after the change
pub lists : (n : ℕ) → Lists n
lists n = record {
  first = λ some few. lists_first n few;
  changed = λ some few. changed_lists n some few;
}
