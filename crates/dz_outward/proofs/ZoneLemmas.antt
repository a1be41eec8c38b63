-- The records of a version, its SOA first.
use Rattle.std.proofs.Common.{◌≡◌, ℕ, ◌≤◌, true, false, List, [], ◌∷◌, length, refl, sym, ◌∙◌, ap, subst, arith, Some}
use Rattle.std.proofs.Common.{None, Bool}
use Rattle.std.specs.Prelude.{◌==◌, ◌&&◌, ◌||◌, not, filter, find, count_by, nat_lt, if◌then◌else◌}
use Rattle.std.specs.List.{AllByRecursion, list_any}
use Rattle.std.specs.List.Sorted.{IsStrictlySortedBy}
use Rattle.std.specs.Ordering.{is_gt, is_eq, ordering_reverse}
use Rattle.std.specs.declared.cmp.Ordering.TheVariants.{Less}
use Rattle.std.proofs.lemmas.List.Kept.{IsStrictlySortedBy-filter}
use Rattle.std.proofs.lemmas.Bool.Decides.{nat_tests}
use Rattle.std.proofs.lemmas.List.Sums.{length-filter}
use Rattle.dz_zone.specs.declared.fault.ZoneFault.TheVariants.{NoSoa, SoaTwice, SoaBelow, NoNs, OutOfZone, CnameBeside}
use Rattle.dz_zone.specs.declared.fault.ZoneFault.TheVariants.{CnameTwice, DnameTwice, TooMany}
use Rattle.dz_name.specs.Name.{same_name}
use Rattle.dz_record.specs.Order.{record_total, same_ties}
use Rattle.dz_record.specs.Record.{Record, record_order, same_record}
use Rattle.dz_record.specs.Records.{distinct, insertion, in_order}
use Rattle.dz_zone.specs.Valid.{at_apex, fault_of, soa_twice, soa_below, no_soa, no_ns, out_of_zone, cname_beside}
use Rattle.dz_zone.specs.Valid.{owned_twice, too_many}
use Rattle.dz_zone.specs.Version.{Zone, apex_soa}
use Rattle.dz_zone.proofs.RecordLemmas.{rising_canonical}
use Rattle.dz_outward.specs.Stream.{is_other}

abbrev pub is_soa : Record → Bool
is_soa r = r.kind == 6

-- what is no SOA, where one record alone is one
only_others : (rs : List Record) → filter is_soa rs ≡ [] → filter is_other rs ≡ rs
only_others [] h = refl
only_others (r ∷ rs) h =
    elim (is_soa r) as (λ b. (if b then r ∷ filter is_soa rs else filter is_soa rs) ≡ []
    → (if not b then r ∷ filter is_other rs else filter is_other rs) ≡ r ∷ rs) [
      | true ↦ λ q. absurd (cc)
      | false ↦ λ q. ap (λ xs. r ∷ xs) (only_others rs q)
    ] h

pub is_among : (P : Record → Type 0) (rs : List Record) (soa : Record) → filter is_soa rs ≡ soa ∷ []
    → AllByRecursion P rs → P soa
is_among P [] soa h all = absurd (cc)
is_among P (r ∷ rs) soa h all =
    elim (is_soa r) as (λ b. (if b then r ∷ filter is_soa rs else filter is_soa rs) ≡ soa ∷ [] → P soa) [
      | true ↦ λ q. let e : r ≡ soa = cc in subst P e all.0
      | false ↦ λ q. is_among P rs soa q all.1
    ] h

less_gt : (a b : Record) → record_order a b ≡ Less → is_gt (record_order b a) ≡ true
less_gt a b less = ap is_gt (record_total.antisymm b a ∙ ap ordering_reverse less)

-- the SOA put among the others is at its place
pub soa_in_place : (rs : List Record) (soa : Record) → IsStrictlySortedBy record_order rs → filter is_soa rs ≡ soa ∷ []
    → insertion soa (filter is_other rs) ≡ rs
unfolding insertion IsStrictlySortedBy
soa_in_place [] soa rises h = absurd (cc)
soa_in_place (r ∷ rs) soa rises h =
    elim (is_soa r) as (λ b. (if b then r ∷ filter is_soa rs else filter is_soa rs) ≡ soa ∷ []
    → insertion soa (if not b then r ∷ filter is_other rs else filter is_other rs) ≡ r ∷ rs) [
      | true ↦ λ q.
          let e : r ≡ soa = cc in
          let none : filter is_soa rs ≡ [] = cc in
          ap (insertion soa) (only_others rs none)
          ∙ in_front rs soa (subst (λ s. AllByRecursion (λ y. record_order s y ≡ Less) rs) e rises.0)
          ∙ ap (λ s. s ∷ rs) (sym e)
      | false ↦ λ q.
          let less = is_among (λ y. record_order r y ≡ Less) rs soa q rises.0 in
          rw (less_gt r soa less) (ap (λ xs. r ∷ xs) (soa_in_place rs soa rises.1 q))
    ] h
  where
    in_front : (rs : List Record) (soa : Record) → AllByRecursion (λ y. record_order soa y ≡ Less) rs
        → insertion soa rs ≡ soa ∷ rs
    in_front [] soa all = refl
    in_front (t ∷ ts) soa all = rw all.0 refl

-- what a version's SOA is
no_second : (a b c d e f g h i : Bool) → (
    if a then Some NoSoa else if b then Some SoaTwice else if c then Some SoaBelow else if d then Some NoNs else if e
    then Some OutOfZone
    else if f then Some CnameBeside else if g then Some CnameTwice else if h then Some DnameTwice else if i
    then Some TooMany else None
    ) ≡ None → (b ≡ false) × (c ≡ false)
no_second true b c d e f g h i n = absurd (cc)
no_second false true c d e f g h i n = absurd (cc)
no_second false false true d e f g h i n = absurd (cc)
no_second false false false d e f g h i n = (refl, refl)

all_at_apex : (apex : List (List ℕ)) (rs : List Record) → soa_below apex rs ≡ false
    → filter is_soa rs ≡ filter (at_apex 6 apex) rs
all_at_apex apex [] h = refl
all_at_apex apex (r ∷ rs) h =
    elim (r.kind == 6) as (λ b.
    ((b && not (same_name r.owner apex)) || list_any (λ s. s.kind == 6 && not (same_name s.owner apex)) rs) ≡ false
    → (if b then r ∷ filter is_soa rs else filter is_soa rs)
    ≡ (if b && same_name r.owner apex then r ∷ filter (at_apex 6 apex) rs else filter (at_apex 6 apex) rs)) [
      | true ↦
          elim (same_name r.owner apex) as (λ o.
          ((true && not o) || list_any (λ s. s.kind == 6 && not (same_name s.owner apex)) rs) ≡ false
          → r ∷ filter is_soa rs
          ≡ (if true && o then r ∷ filter (at_apex 6 apex) rs else filter (at_apex 6 apex) rs)) [
            | true ↦ λ q. ap (λ xs. r ∷ xs) (all_at_apex apex rs q)
            | false ↦ λ q. absurd (cc)
          ]
      | false ↦ λ q. all_at_apex apex rs q
    ] h

found_first : (p : Record → Bool) (rs : List Record) (soa : Record) → Some soa ≡ find p rs
    → (more : List Record) × (filter p rs ≡ soa ∷ more)
found_first p [] soa h = absurd (cc)
found_first p (r ∷ rs) soa h =
    elim (p r) as (λ b. Some soa ≡ (if b then Some r else find p rs)
    → (more : List Record) × ((if b then r ∷ filter p rs else filter p rs) ≡ soa ∷ more)) [
      | true ↦ λ q. let e : r ≡ soa = cc in (filter p rs, ap (λ s. s ∷ filter p rs) e)
      | false ↦ λ q. found_first p rs soa q
    ] h

pub soa_alone : (zone : Zone) (soa : Record) → fault_of zone.apex zone.records ≡ None → Some soa ≡ apex_soa zone
    → filter is_soa zone.records ≡ soa ∷ []
unfolding fault_of
soa_alone zone soa faultless found =
    let apex : List (List ℕ) = zone.apex in
    let rs : List Record = zone.records in
    let no = no_second (no_soa apex rs) (soa_twice apex rs) (soa_below apex rs) (no_ns apex rs) (out_of_zone apex rs)
    (cname_beside rs) (owned_twice 5 rs) (owned_twice 39 rs) (too_many rs) faultless in
    let first = found_first (at_apex 6 apex) rs soa found in
    let one : length (filter (at_apex 6 apex) rs) ≤ 1 =
    let n = length-filter (at_apex 6 apex) rs in
    let few : nat_lt 1 (count_by (at_apex 6 apex) rs) ≡ false = no.0 in
    grind (arith, nat_tests) in
    all_at_apex apex rs no.1 ∙ first.1
    ∙ ap (λ xs. soa ∷ xs) (is_none first.0 (omega (arith, ap (λ xs. length xs) first.1)))
  where
    is_none : (xs : List Record) → length xs ≤ 0 → xs ≡ []
    is_none [] h = refl
    is_none (x ∷ xs) h = absurd (omega arith)

-- none of the others is the same as the SOA
none_same : (soa : Record) (rs : List Record) → soa.kind ≡ 6
    → filter (λ s. not (same_record soa s)) (filter is_other rs) ≡ filter is_other rs
none_same soa [] kind = refl
none_same soa (r ∷ rs) kind =
    elim (r.kind == 6) as (λ b. r.kind == 6 ≡ b
    → filter (λ s. not (same_record soa s)) (if not b then r ∷ filter is_other rs else filter is_other rs)
    ≡ (if not b then r ∷ filter is_other rs else filter is_other rs)) [
      | true ↦ λ q. none_same soa rs kind
      | false ↦ λ q.
          let other : (soa.kind == r.kind) ≡ false = grind (arith, nat_tests) in
          let not_same : same_record soa r ≡ false =
          differ (same_name soa.owner r.owner) (soa.kind == r.kind) _ other in
          rw not_same (ap (λ xs. r ∷ xs) (none_same soa rs kind))
    ] refl
  where
    differ : (a b c : Bool) → b ≡ false → (a && (b && c)) ≡ false
    differ true b c e = rw e refl
    differ false b c e = refl

-- records that rise are distinct
distinct_rising : (rs : List Record) → IsStrictlySortedBy record_order rs → distinct rs ≡ rs
unfolding distinct IsStrictlySortedBy
distinct_rising [] rises = refl
distinct_rising (r ∷ rs) rises = ap (λ xs. r ∷ filter (λ s. not (same_record r s)) xs) (distinct_rising rs rises.1)
    ∙ ap (λ xs. r ∷ xs) (none_tie r rs rises.0)
  where
    none_tie : (r : Record) (rs : List Record) → AllByRecursion (λ y. record_order r y ≡ Less) rs
        → filter (λ s. not (same_record r s)) rs ≡ rs
    none_tie r [] all = refl
    none_tie r (s ∷ ss) all =
        let no : same_record r s ≡ false = same_ties r s ∙ ap is_eq all.0 in
        rw no (ap (λ xs. s ∷ xs) (none_tie r ss all.1))

-- the SOA and the others make the version's records
pub soa_and_others : (zone : Zone) (soa : Record) → IsStrictlySortedBy record_order zone.records
    → filter is_soa zone.records ≡ soa ∷ [] → soa.kind ≡ 6
    → (distinct (soa ∷ filter is_other zone.records) ≡ soa ∷ filter is_other zone.records)
    × (in_order (soa ∷ filter is_other zone.records) ≡ zone.records)
unfolding distinct in_order
soa_and_others zone soa rises alone kind =
    let rest : List Record = filter is_other zone.records in
    let up : IsStrictlySortedBy record_order rest =
    IsStrictlySortedBy-filter record_order is_other zone.records rises in
    let same : distinct rest ≡ rest = distinct_rising rest up in
    let sorted : in_order rest ≡ rest = ap in_order (sym same) ∙ sym (rising_canonical rest up) in (
      ap (λ xs. soa ∷ filter (λ s. not (same_record soa s)) xs) same
          ∙ ap (λ xs. soa ∷ xs) (none_same soa zone.records kind),
      ap (insertion soa) sorted ∙ soa_in_place zone.records soa rises alone,
    )
