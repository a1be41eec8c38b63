-- The records of an owner, as the index of a zone tells them, and those of a type among them.
use Rattle.std.proofs.Common.{◌≡◌, ℕ, zero, suc, ◌+◌, ◌-◌, ◌<◌, ◌≤◌, Bool, true, false, List, [], ◌∷◌, length, take}
use Rattle.std.proofs.Common.{drop, get_or, refl, sym, ◌∙◌, arith, inl, inr, subst}
use Rattle.std.specs.Prelude.{filter, ◌==◌}
use Rattle.std.specs.List.Sorted.{IsStrictlySortedBy, IsSortedBy, IsNonDecreasingBy, IsPartitionPoint, IsPartitionedBy}
use Rattle.std.specs.Ordering.{is_lt, is_le, is_eq, nat_cmp, ordering_then, ordering_index}
use Rattle.std.specs.declared.cmp.Ordering.{Ordering}
use Rattle.std.specs.declared.cmp.Ordering.TheVariants.{Less, Equal, Greater}
use Rattle.std.specs.Cmp.{tied_itself, nat_cmp_total}
use Rattle.std.proofs.lemmas.Bool.{cases_Bool, cases_lt, false_from_ne_true, false≢true}
use Rattle.std.proofs.lemmas.Bool.Decides.{nat_tests}
use Rattle.std.proofs.lemmas.List.{length-map, get_or_default}
use Rattle.std.proofs.Math.ListN.{get_or-map}
use Rattle.std.proofs.lemmas.List.Sorted.{searchable_from_sorted}
use Rattle.std.proofs.lemmas.List.Kept.{IsStrictlySortedBy-filter}
use Rattle.std.proofs.lemmas.List.Elements.{filter_agree}
use Rattle.std.proofs.lemmas.Map.Keys.{Less-from_sorted}
use Rattle.dz_name.specs.Name.{canonical_order, same_name}
use Rattle.dz_name.specs.Order.{canonical_total, same_decides}
use Rattle.dz_record.specs.Record.{Record, record_order}
use Rattle.dz_index.specs.Index.{IsFirstOf, IsEndOf, IsRun}
use Rattle.dz_zone.specs.Version.{owners_of}
use Rattle.dz_runs.specs.Runs.{of_type, records_of}
use Rattle.dz_runs.specs.Node.{from_owner, IsBegin, IsEnd, IsNodeOf}
use Rattle.dz_runs.proofs.RunLemmas.{run_is, partitioned_lt, partitioned_le}
use Rattle.dz_runs.proofs.InOrder.{records_of_is, owners_before, owners_upto, owner_run}

-- places among the owners are places among the records
pub first_begin : (zone : List Record) (name : List (List ℕ)) (place : ℕ) → IsFirstOf name (owners_of zone) place
    → IsBegin (from_owner name) zone place
first_begin zone name place is = (
  λ k d low lt. rw (get_or-map (λ (r : Record). r.owner) zone k d) at (is.0 k d.owner low lt),
  λ k d from within. rw (get_or-map (λ (r : Record). r.owner) zone k d)
      at (is.1 k d.owner from (omega (arith, length-map zone (λ (r : Record). r.owner)))),
)

pub end_end : (zone : List Record) (name : List (List ℕ)) (place : ℕ) → IsEndOf name (owners_of zone) place
    → IsEnd (from_owner name) zone place
end_end zone name place is = (
  λ k d low lt. rw (get_or-map (λ (r : Record). r.owner) zone k d) at (is.0 k d.owner low lt),
  λ k d from within. rw (get_or-map (λ (r : Record). r.owner) zone k d)
      at (is.1 k d.owner from (omega (arith, length-map zone (λ (r : Record). r.owner)))),
)

-- a place before which the last record comes before a name, and at which none does
lt_is_le : (o : Ordering) → is_lt o ≡ true → is_le o ≡ true
lt_is_le Less h = refl
lt_is_le Equal h = absurd (cc)
lt_is_le Greater h = absurd (cc)

pub begin_upto_end : (zone : List Record) (name : List (List ℕ)) (begin end : ℕ) → begin ≤ length zone
    → IsBegin (from_owner name) zone begin → IsEnd (from_owner name) zone end → begin ≤ end
begin_upto_end [] name begin end within first last = omega (arith, within)
begin_upto_end (r ∷ rest) name begin end within first last = elim (cases_lt end begin) [
  | inl lt ↦ absurd (false≢true (sym (last.1 end r (omega arith) (omega arith))
      ∙ lt_is_le (from_owner name (get_or (r ∷ rest) end r)) (first.0 end r (omega arith) lt)))
  | inr ge ↦ omega arith
]

module _ (zone : List Record) (name : List (List ℕ)) (i : ℕ) (d : Record) (up : IsStrictlySortedBy record_order zone)
    (some : 0 < i) (within : i < length zone)
    (before : is_lt (from_owner name (get_or zone (i - 1) d)) ≡ true) where
  pub begins_here : is_lt (from_owner name (get_or zone i d)) ≡ false → IsBegin (from_owner name) zone i
  begins_here at_place = (
    λ k e low lt. owners_before zone name up k (i - 1) e (omega (arith, lt)) (omega (arith, within))
        (rw (get_or_default zone (i - 1) d e (omega (arith, within))) at before),
    λ k e from inside. false_from_ne_true (is_lt (from_owner name (get_or zone k e)))
        (λ t. absurd (false≢true (sym (rw (get_or_default zone i d e within) at at_place)
        ∙ owners_before zone name up i k e from inside t))),
  )

  pub ends_here : is_le (from_owner name (get_or zone i d)) ≡ false → IsEnd (from_owner name) zone i
  ends_here at_place = (
    λ k e low lt. lt_is_le (from_owner name (get_or zone k e))
        (owners_before zone name up k (i - 1) e (omega (arith, lt)) (omega (arith, within))
        (rw (get_or_default zone (i - 1) d e (omega (arith, within))) at before)),
    λ k e from inside. false_from_ne_true (is_le (from_owner name (get_or zone k e)))
        (λ t. absurd (false≢true (sym (rw (get_or_default zone i d e within) at at_place)
        ∙ owners_upto zone name up i k e from inside t))),
  )

-- records of one owner in canonical order ascend by type
passes_first : (p : Record → Bool) (r : Record) (rest : List Record) (k : ℕ) (d : Record) → p r ≡ true
    → ((j : ℕ) → j < length rest → p (get_or rest j d) ≡ true)
    → k < length (r ∷ rest) → p (get_or (r ∷ rest) k d) ≡ true
passes_first p r rest zero d here others within = here
passes_first p r rest (suc k) d here others within = others k (omega arith)

passes : (p : Record → Bool) (rs : List Record) (k : ℕ) (d : Record) → k < length (filter p rs)
    → p (get_or (filter p rs) k d) ≡ true
passes p [] k d within = absurd (omega arith)
passes p (r ∷ rs) k d within = elim (cases_Bool (p r)) [
  | inl here ↦ rw here (passes_first p r (filter p rs) k d here (λ j h. passes p rs j d h) (rw here at within))
  | inr not_here ↦ rw not_here (passes p rs k d (rw not_here at within))
]

kind_le : (o q : Ordering) (a b : ℕ) → ordering_then (ordering_then o (nat_cmp a b)) q ≡ Less → o ≡ Equal → a ≤ b
kind_le o q a b less same = go (nat_cmp a b) refl
  where
    go : (p : Ordering) → nat_cmp a b ≡ p → a ≤ b
    go Less e = grind (arith, nat_tests)
    go Equal e = grind (arith, nat_tests)
    go Greater e = let h = rw (same, e) at less in absurd (cc)

kinds_of : (name : List (List ℕ)) (rs : List Record) → IsStrictlySortedBy record_order rs
    → ((k : ℕ) (d : Record) → k < length rs → (get_or rs k d).owner ≡ name) → IsNonDecreasingBy (λ r. r.kind) rs
kinds_of name rs up owned i j d le within = elim (cases_lt i j) [
  | inl lt ↦
      let less = Less-from_sorted record_order rs i j d up lt within in
      let same : (get_or rs i d).owner ≡ (get_or rs j d).owner = owned i d (omega arith) ∙ sym (owned j d within) in
      kind_le (canonical_order (get_or rs i d).owner (get_or rs j d).owner) _ (get_or rs i d).kind
      (get_or rs j d).kind less (rw same (tied_itself canonical_total (get_or rs j d).owner))
  | inr ge ↦ let e : i ≡ j = omega arith in rw e (omega arith)
]

pub node_kinds : (zone : List Record) (name : List (List ℕ)) → IsStrictlySortedBy record_order zone
    → IsNonDecreasingBy (λ r. r.kind) (records_of zone name)
node_kinds zone name up =
    rw (records_of_is zone name up)
    (kinds_of name (filter (λ r. same_name r.owner name) zone)
    (IsStrictlySortedBy-filter record_order (λ r. same_name r.owner name) zone up)
    (λ k d within. (same_decides (get_or (filter (λ r. same_name r.owner name) zone) k d).owner name).0
    (passes (λ r. same_name r.owner name) zone k d within)))

-- the records of a type in such a list are one run
kinds_sorted : (rs : List Record) → IsNonDecreasingBy (λ r. r.kind) rs
    → IsSortedBy (λ a b. is_lt (nat_cmp a.kind b.kind)) rs
kinds_sorted rs up k d low within =
    let le : (get_or rs k d).kind ≤ (get_or rs (k + 1) d).kind = up k (k + 1) d (omega arith) within in
    grind (arith, nat_tests)

kinds_searchable : (rs : List Record) (kind : ℕ) → IsNonDecreasingBy (λ r. r.kind) rs
    → IsNonDecreasingBy (λ r. ordering_index (nat_cmp r.kind kind)) rs
kinds_searchable rs kind up =
    searchable_from_sorted nat_cmp_total (λ (r : Record). r.kind) rs kind (kinds_sorted rs up)

pub kinds_before : (rs : List Record) (kind : ℕ) → IsNonDecreasingBy (λ r. r.kind) rs
    → IsPartitionedBy (λ r. is_lt (nat_cmp r.kind kind)) rs
kinds_before rs kind up = partitioned_lt (λ r. nat_cmp r.kind kind) rs (kinds_searchable rs kind up)

pub kinds_upto : (rs : List Record) (kind : ℕ) → IsNonDecreasingBy (λ r. r.kind) rs
    → IsPartitionedBy (λ r. is_le (nat_cmp r.kind kind)) rs
kinds_upto rs kind up = partitioned_le (λ r. nat_cmp r.kind kind) rs (kinds_searchable rs kind up)

same_kind : (a b : ℕ) → is_eq (nat_cmp a b) ≡ (a == b)
same_kind a b = grind (arith, nat_tests)

pub type_run : (rs : List Record) (kind i j : ℕ) → i ≤ length rs → j ≤ length rs
    → IsPartitionPoint (λ r. is_lt (nat_cmp r.kind kind) ≡ true) (λ r. is_lt (nat_cmp r.kind kind) ≡ false) rs i
    → IsPartitionPoint (λ r. is_le (nat_cmp r.kind kind) ≡ true) (λ r. is_le (nat_cmp r.kind kind) ≡ false) rs j
    → take (j - i) (drop i rs) ≡ of_type kind rs
type_run rs kind i j low_in high_in low high =
    run_is (λ r. nat_cmp r.kind kind) rs i j low_in high_in low high
    ∙ filter_agree (λ r. is_eq (nat_cmp r.kind kind)) (λ r. r.kind == kind) (λ r. same_kind r.kind kind) rs

-- the node of the owner whose records a run has
module _ (zone : List Record) (begin end : ℕ) (d : Record) (up : IsStrictlySortedBy record_order zone)
    (run : IsRun (owners_of zone) begin end) where
  run_begins : IsBegin (from_owner (get_or zone begin d).owner) zone begin
  run_begins = first_begin zone (get_or zone begin d).owner begin
      (rw (get_or-map (λ (r : Record). r.owner) zone begin d) at (run.first d.owner))

  run_finishes : IsEnd (from_owner (get_or zone begin d).owner) zone end
  run_finishes = end_end zone (get_or zone begin d).owner end
      (rw (get_or-map (λ (r : Record). r.owner) zone begin d) at (run.last d.owner))

  run_records : take (end - begin) (drop begin zone) ≡ records_of zone (get_or zone begin d).owner
  run_records =
      let long = length-map zone (λ (r : Record). r.owner) in
      owner_run zone (get_or zone begin d).owner begin end up (omega (arith, run.some, run.within, long))
      (omega (arith, run.within, long)) run_begins run_finishes

  pub run_node : IsNodeOf zone (get_or zone begin d).owner begin (take (end - begin) (drop begin zone))
  run_node = record {
    within = omega (arith, run.some, run.within, length-map zone (λ (r : Record). r.owner));
    point = run_begins;
    records_are = run_records;
    kinds = subst (λ rs. IsNonDecreasingBy (λ (r : Record). r.kind) rs) (sym run_records)
        (node_kinds zone (get_or zone begin d).owner up);
  }

-- where a name that owns no record would be
pub no_node : (zone : List Record) (name : List (List ℕ)) (i : ℕ) → IsStrictlySortedBy record_order zone
    → i ≤ length zone → IsBegin (from_owner name) zone i → IsEnd (from_owner name) zone i → IsNodeOf zone name i []
no_node zone name i up room begin end =
    let nothing : i - i ≡ 0 = omega arith in
    let none : [] ≡ records_of zone name = rw nothing at (owner_run zone name i i up room room begin end) in
    record {
      within = room;
      point = begin;
      records_are = none;
      kinds = subst (λ rs. IsNonDecreasingBy (λ (r : Record). r.kind) rs) (sym none) (node_kinds zone name up);
    }
