-- The records of a catalog make a zone: none of the faults of a zone holds of them.
use Rattle.std.proofs.Common.{◌≡◌, ℕ, ◌+◌, ◌≤◌, Bool, true, false, List, [], ◌∷◌, ◌++◌, length, refl, sym, ◌∙◌, ap}
use Rattle.std.proofs.Common.{arith, length-append, Some, None, inl, inr}
use Rattle.std.specs.Prelude.{filter, not, nat_lt, ◌==◌, ◌&&◌, if◌then◌else◌}
use Rattle.std.specs.Borrow.{Bor}
use Rattle.std.specs.List.{AllByRecursion, list_any, flat_map, count_by}
use Rattle.std.proofs.lemmas.Bool.{cases_Bool}
use Rattle.std.proofs.lemmas.Bool.Decides.{nat_tests}
use Rattle.std.proofs.lemmas.List.Sums.{length-filter, count_by-le-length}
use Rattle.dz_name.specs.Name.{same_name, is_within, wire_of}
use Rattle.dz_name.proofs.PartLemmas.{within_suffix}
use Rattle.dz_member.specs.declared.listing.Node.{Node}
use Rattle.dz_record.specs.Record.{Record, same_record}
use Rattle.dz_record.specs.Records.{distinct}
use Rattle.dz_zone.specs.Valid.{some_two, at_apex, no_soa, soa_twice, soa_below, no_ns, out_of_zone, cname_beside}
use Rattle.dz_zone.specs.Valid.{owned_twice, too_many, clash, both_are, fault_of}
use Rattle.dz_zone.specs.declared.fault.ZoneFault.TheVariants.{NoSoa, SoaTwice, SoaBelow, NoNs, OutOfZone, CnameBeside}
use Rattle.dz_zone.specs.declared.fault.ZoneFault.TheVariants.{CnameTwice, DnameTwice, TooMany}
use Rattle.dz_catalog.specs.Broken.{version_name}
use Rattle.dz_catalog.specs.Member.{coo_name, group_name}
use Rattle.dz_producer.specs.Records.{uncached, soa, name_server, version_property, owner_of, member, plain_records}
use Rattle.dz_producer.specs.Records.{digest, all_records, node_records}
use Rattle.dz_producer.specs.inner.Nodes.{values, whole_count}
use Rattle.dz_producer.proofs.FaultLemmas.{all_length}
use Rattle.dz_producer.proofs.OwnerLemmas.{name_itself, kinds_differ}
use Rattle.dz_producer.proofs.PairLemmas.{each_more, any_no, or_false}
use Rattle.dz_producer.proofs.RecordLemmas.{all_append, none_kept, all_node, all_nodes}

-- ---- what holds of each record holds of each of the distinct ones
all_filter : {X : Type 0} (P : X → Type 0) (p : X → Bool) (xs : List X) → AllByRecursion P xs
    → AllByRecursion P (filter p xs)
all_filter P p [] h = tt
all_filter P p (x ∷ xs) h =
    elim (cases_Bool (p x)) [
      | inl t ↦ rw t (h.0, all_filter P p xs h.1)
      | inr f ↦ rw f (all_filter P p xs h.1)
    ]

all_distinct : (P : Record → Type 0) (rs : List Record) → AllByRecursion P rs → AllByRecursion P (distinct rs)
unfolding distinct
all_distinct P [] h = tt
all_distinct P (r ∷ rs) h = (h.0, all_filter P (λ s. not (same_record r s)) (distinct rs) (all_distinct P rs h.1))

few_filter : {X : Type 0} (p : X → Bool) (xs : List X) → length (filter p xs) ≤ length xs
few_filter p xs = omega (arith, length-filter p xs, count_by-le-length p xs)

few_distinct : (rs : List Record) → length (distinct rs) ≤ length rs
unfolding distinct
few_distinct [] = omega arith
few_distinct (r ∷ rs) = omega (arith, few_filter (λ s. not (same_record r s)) (distinct rs), few_distinct rs)

-- ---- faults of two records
two_no : (test : Record → Record → Bool) (P : Record → Type 0) → ((r s : Record) → P r → P s → test r s ≡ false)
    → (rs : List Record) → AllByRecursion P rs → some_two test rs ≡ false
unfolding some_two
two_no test P f [] h = refl
two_no test P f (r ∷ rs) h =
    or_false (list_any (test r) rs) (some_two test rs)
    (any_no (test r) rs (each_more P (λ s. test r s ≡ false) (λ s k. f r s h.0 k) rs h.1)) (two_no test P f rs h.1)

no_clash : (r s : Record) → (r.kind == 5) ≡ false → (s.kind == 5) ≡ false → clash r s ≡ false
unfolding clash
no_clash r s f g = rw (f, g) (and_no (same_name r.owner s.owner))
  where
    and_no : (a : Bool) → (a && false) ≡ false
    and_no true = refl
    and_no false = refl

not_both : (kind : ℕ) (r s : Record) → (r.kind == kind) ≡ false → both_are kind r s ≡ false
unfolding both_are
not_both kind r s f = rw f (and_no (same_name r.owner s.owner))
  where
    and_no : (a : Bool) → (a && false) ≡ false
    and_no true = refl
    and_no false = refl

-- ---- the nine tests
none_of_nine : (a b c d e f g h i : Bool) → a ≡ false → b ≡ false → c ≡ false → d ≡ false → e ≡ false → f ≡ false
    → g ≡ false → h ≡ false → i ≡ false → (
    if a then Some NoSoa else if b then Some SoaTwice else if c then Some SoaBelow else if d then Some NoNs
    else if e then Some OutOfZone else if f then Some CnameBeside else if g then Some CnameTwice
    else if h then Some DnameTwice else if i then Some TooMany else None
    ) ≡ None
none_of_nine a b c d e f g h i p q r s t u v w x = rw (p, q, r, s, t, u, v, w, x) refl

none_holds : (apex : List (List ℕ)) (rs : List Record) → no_soa apex rs ≡ false → soa_twice apex rs ≡ false
    → soa_below apex rs ≡ false → no_ns apex rs ≡ false → out_of_zone apex rs ≡ false
    → cname_beside rs ≡ false → owned_twice 5 rs ≡ false → owned_twice 39 rs ≡ false → too_many rs ≡ false
    → fault_of apex rs ≡ None
unfolding fault_of
none_holds apex rs p q r s t u v w x =
    none_of_nine (no_soa apex rs) (soa_twice apex rs) (soa_below apex rs) (no_ns apex rs) (out_of_zone apex rs)
    (cname_beside rs) (owned_twice 5 rs) (owned_twice 39 rs) (too_many rs) p q r s t u v w x

-- ---- a record within the apex that is no alias, and one that is no SOA either
pub record IsWithout (apex : List (List ℕ)) (r : Record) : Type 0 where
  pub cname : (r.kind == 5) ≡ false
  pub dname : (r.kind == 39) ≡ false
  pub within : is_within r.owner apex ≡ true

pub record IsBeside (apex : List (List ℕ)) (r : Record) : Type 0 where
  pub soa : (r.kind == 6) ≡ false
  pub without : IsWithout apex r

module _ (apex : List (List ℕ)) where
  below : (front : List (List ℕ)) → is_within (front ++ apex) apex ≡ true
  below front = (within_suffix (front ++ apex) apex).1 (front, refl)

  module _ (serial : ℕ) (rest : List Record) (beside : AllByRecursion (IsBeside apex) rest) where
    abbrev all : List Record
    all = soa apex serial ∷ name_server apex ∷ rest

    each : AllByRecursion (IsWithout apex) all
    each = (
      record { cname = refl; dname = refl; within = below [] },
      (
        record { cname = refl; dname = refl; within = below [] },
        each_more (IsBeside apex) (IsWithout apex) (λ r k. k.without) rest beside,
      ),
    )

    no_more : AllByRecursion (λ r. at_apex 6 apex r ≡ false) rest
    no_more = each_more (IsBeside apex) (λ r. at_apex 6 apex r ≡ false) (λ r k. rw k.soa refl) rest beside

    one_soa : filter (at_apex 6 apex) all ≡ soa apex serial ∷ []
    one_soa = rw (name_itself apex, none_kept (at_apex 6 apex) rest no_more) refl

    once : soa_twice apex all ≡ false
    once =
        let count : 1 ≡ count_by (at_apex 6 apex) all = sym (ap length one_soa) ∙ length-filter (at_apex 6 apex) all in
        rw (← count) refl

    none_below : soa_below apex all ≡ false
    none_below =
        or_false _ _ (rw (name_itself apex) refl)
        (any_no (λ r. r.kind == 6 && not (same_name r.owner apex)) rest
        (each_more (IsBeside apex) (λ r. (r.kind == 6 && not (same_name r.owner apex)) ≡ false)
        (λ r k. rw k.soa refl) rest beside))

    none_outside : out_of_zone apex all ≡ false
    none_outside =
        any_no (λ r. not (is_within r.owner apex)) all
        (each_more (IsWithout apex) (λ r. not (is_within r.owner apex) ≡ false) (λ r k. rw k.within refl) all each)

    pub no_fault : 2 + length rest ≤ 250000 → fault_of apex all ≡ None
    no_fault few =
        none_holds apex all (rw (name_itself apex) refl) once none_below (rw (name_itself apex) refl) none_outside
        (two_no clash (IsWithout apex) (λ r s k l. no_clash r s k.cname l.cname) all each)
        (two_no (both_are 5) (IsWithout apex) (λ r s k l. not_both 5 r s k.cname) all each)
        (two_no (both_are 39) (IsWithout apex) (λ r s k l. not_both 39 r s k.dname) all each)
        (small (length all) (omega arith))
      where
        small : (n : ℕ) → n ≤ 250000 → nat_lt 250000 n ≡ false
        small n h = grind (arith, nat_tests)

  -- ---- the distinct ones of an SOA, an NS and others
  module _ (serial : ℕ) where
    abbrev kept : List Record → List Record
    kept rest = filter (λ s. not (same_record (soa apex serial) s))
        (filter (λ s. not (same_record (name_server apex) s)) (distinct rest))

    distinct_front : (rest : List Record)
        → distinct (soa apex serial ∷ name_server apex ∷ rest) ≡ soa apex serial ∷ name_server apex ∷ kept rest
    unfolding distinct
    distinct_front rest = rw (kinds_differ (soa apex serial) (name_server apex) refl) refl

    kept_beside : (rest : List Record) → AllByRecursion (IsBeside apex) rest
        → AllByRecursion (IsBeside apex) (kept rest)
    kept_beside rest beside =
        let inner = all_filter (IsBeside apex) (λ s. not (same_record (name_server apex) s)) (distinct rest)
        (all_distinct (IsBeside apex) rest beside) in
        all_filter (IsBeside apex) (λ s. not (same_record (soa apex serial) s))
        (filter (λ s. not (same_record (name_server apex) s)) (distinct rest)) inner

    kept_few : (rest : List Record) → length (kept rest) ≤ length rest
    kept_few rest =
        omega (
          arith,
          few_filter (λ s. not (same_record (soa apex serial) s))
              (filter (λ s. not (same_record (name_server apex) s)) (distinct rest)),
          few_filter (λ s. not (same_record (name_server apex) s)) (distinct rest),
          few_distinct rest,
        )

    faultless : (rest : List Record) → AllByRecursion (IsBeside apex) rest → 2 + length rest ≤ 250000
        → fault_of apex (distinct (soa apex serial ∷ name_server apex ∷ rest)) ≡ None
    faultless rest beside few =
        let fewer = kept_few rest in
        ap (fault_of apex) (distinct_front rest) ∙ no_fault serial (kept rest) (kept_beside rest beside) (omega arith)

    -- ---- the records of a catalog
    beside : (r : Record) (front : List (List ℕ)) → r.owner ≡ front ++ apex → (r.kind == 6) ≡ false
        → (r.kind == 5) ≡ false
        → (r.kind == 39) ≡ false → IsBeside apex r
    beside r front e s c d = record { soa = s; without = record { cname = c; dname = d; within = rw e (below front) } }

    of_node : (node : Node) → AllByRecursion (IsBeside apex) (node_records apex node)
    of_node node =
        let front : List (List ℕ) = owner_of [] node in
        all_node (IsBeside apex) apex node (beside (member apex node) front refl refl refl refl)
        (λ c. beside (uncached (coo_name (owner_of apex node)) 12 (wire_of c)) (coo_name front) refl refl refl refl)
        (λ g. beside (uncached (group_name (owner_of apex node)) 16 g) (group_name front) refl refl refl refl)

    of_nodes : (nodes : List Node)
        → AllByRecursion (IsBeside apex) (version_property apex ∷ flat_map (node_records apex) nodes)
    of_nodes nodes = (
      beside (version_property apex) (version_name []) refl refl refl refl,
      all_nodes (IsBeside apex) apex of_node nodes,
    )

    pub plain_faultless : (nodes : List (Bor Node)) → nat_lt 250000 (whole_count nodes) ≡ false
        → fault_of apex (distinct (plain_records apex serial (values nodes))) ≡ None
    plain_faultless nodes few =
        let plain : List Record = plain_records apex serial (values nodes) in
        let last : List Record = digest apex serial plain ∷ [] in
        let count : length plain + 1 ≤ 250000 =
        small (whole_count nodes) few (length plain + 1)
        (sym (length-append plain last) ∙ all_length apex serial nodes) in
        faultless (version_property apex ∷ flat_map (node_records apex) (values nodes)) (of_nodes (values nodes))
        (omega arith)
      where
        small : (n : ℕ) → nat_lt 250000 n ≡ false → (m : ℕ) → m ≡ n → m ≤ 250000
        small n h m e = grind (arith, nat_tests)

    pub all_faultless : (nodes : List (Bor Node)) → nat_lt 250000 (whole_count nodes) ≡ false
        → fault_of apex (distinct (all_records apex serial (values nodes))) ≡ None
    all_faultless nodes few =
        let rest : List Record = version_property apex ∷ flat_map (node_records apex) (values nodes) in
        let zonemd : Record = digest apex serial (plain_records apex serial (values nodes)) in
        let last : List Record = zonemd ∷ [] in
        let count : length (all_records apex serial (values nodes)) ≤ 250000 =
        small (whole_count nodes) few (length (all_records apex serial (values nodes)))
        (all_length apex serial nodes) in
        faultless (rest ++ last)
        (all_append (IsBeside apex) rest last (of_nodes (values nodes))
        (beside zonemd [] refl refl refl refl, tt)) (omega arith)
      where
        small : (n : ℕ) → nat_lt 250000 n ≡ false → (m : ℕ) → m ≡ n → m ≤ 250000
        small n h m e = grind (arith, nat_tests)
