-- A zone in order: where one can search it, and which records a search gives.
use Rattle.std.proofs.Common.{◌≡◌, ℕ, ◌+◌, ◌-◌, ◌<◌, ◌≤◌, Bool, true, false, List, [], ◌∷◌, length, take, drop, get_or}
use Rattle.std.proofs.Common.{refl, sym, ◌∙◌, ap, arith, inl, inr}
use Rattle.std.specs.Prelude.{filter, ◌==◌, ◌&&◌}
use Rattle.std.specs.List.{AllByRecursion}
use Rattle.std.specs.List.Sorted.{IsStrictlySortedBy, IsSortedBy, IsNonDecreasingBy, IsPartitionedBy}
use Rattle.std.specs.Cmp.{IsTotalOrder, on_total, then_total, nat_cmp_total}
use Rattle.std.specs.Ordering.{is_lt, is_le, is_eq, is_gt, ordering_index, ordering_then, ordering_reverse, nat_cmp}
use Rattle.std.specs.Ordering.{on, then_cmp}
use Rattle.std.specs.declared.cmp.Ordering.{Ordering}
use Rattle.std.specs.declared.cmp.Ordering.TheVariants.{Less, Equal, Greater}
use Rattle.std.proofs.lemmas.List.Sorted.{searchable_from_sorted}
use Rattle.std.proofs.lemmas.List.Kept.{IsStrictlySortedBy-filter}
use Rattle.std.proofs.lemmas.List.Elements.{filter_agree}
use Rattle.std.proofs.lemmas.Map.Keys.{Less-from_sorted, sorted_head, sorted_tail}
use Rattle.std.specs.Cmp.{both_ways}
use Rattle.std.proofs.lemmas.Bool.{cases_Bool, cases_lt, false_from_ne_true}
use Rattle.std.proofs.lemmas.List.{get_or_default}
use Rattle.std.proofs.lemmas.List.Folds.{list_any_none, list_any_at, Any-from_list_any}
use Rattle.std.proofs.lemmas.Bool.Decides.{nat_tests}
use Rattle.dz_name.specs.Name.{canonical_order, same_name}
use Rattle.dz_name.specs.Order.{canonical_total, same_ties, same_decides}
use Rattle.dz_record.specs.Record.{Record, record_order}
use Rattle.dz_record.specs.Records.{insertion, in_order}
use Rattle.dz_runs.specs.Runs.{of_type, records_of, owns}
use Rattle.dz_runs.specs.Node.{from_owner, from_key, IsBegin, IsEnd}
use Rattle.dz_runs.proofs.RunLemmas.{filter_none, run_is, partitioned_lt, partitioned_le}

-- owner and type of a record, and their order
abbrev key : Record → List (List ℕ) × ℕ
key r = (r.owner, r.kind)

abbrev key_cmp : List (List ℕ) × ℕ → List (List ℕ) × ℕ → Ordering
key_cmp = then_cmp (on (λ k. k.0) canonical_order) (on (λ k. k.1) nat_cmp)

key_total : IsTotalOrder key_cmp
key_total = then_total (on_total (λ k. k.0) canonical_total) (on_total (λ k. k.1) nat_cmp_total)

first_not_greater : (o p : Ordering) → ordering_then o p ≡ Less → is_gt o ≡ false
first_not_greater Less p h = refl
first_not_greater Equal p h = refl
first_not_greater Greater p h = absurd (cc)

back_not_less : (o : Ordering) → is_gt o ≡ false → is_lt (ordering_reverse o) ≡ false
back_not_less Less h = refl
back_not_less Equal h = refl
back_not_less Greater h = absurd (cc)

first_of_three : (o p q : Ordering) → ordering_then (ordering_then o p) q ≡ Less → is_gt o ≡ false
first_of_three Less p q h = refl
first_of_three Equal p q h = refl
first_of_three Greater p q h = absurd (cc)

less_key : (a b : Record) → record_order a b ≡ Less → is_lt (key_cmp (key b) (key a)) ≡ false
less_key a b h =
    rw (key_total.antisymm (key b) (key a))
    (back_not_less (key_cmp (key a) (key b)) (first_not_greater (key_cmp (key a) (key b)) _ h))

less_owner : (a b : Record) → record_order a b ≡ Less → is_lt (canonical_order b.owner a.owner) ≡ false
less_owner a b h =
    rw (canonical_total.antisymm b.owner a.owner)
    (back_not_less (canonical_order a.owner b.owner)
    (first_of_three (canonical_order a.owner b.owner) (nat_cmp a.kind b.kind) _ h))

pub owners_rise : (zone : List Record) → IsStrictlySortedBy record_order zone
    → IsSortedBy (λ a b. is_lt (canonical_order a.owner b.owner)) zone
owners_rise zone up k d low within =
    less_owner (get_or zone k d) (get_or zone (k + 1) d)
    (Less-from_sorted record_order zone k (k + 1) d up (omega arith) within)

keys_rise : (zone : List Record) → IsStrictlySortedBy record_order zone
    → IsSortedBy (λ a b. is_lt (key_cmp (key a) (key b))) zone
keys_rise zone up k d low within =
    less_key (get_or zone k d) (get_or zone (k + 1) d)
    (Less-from_sorted record_order zone k (k + 1) d up (omega arith) within)

-- seen from an owner, or an owner and a type, the records rise
pub owners_searchable : (zone : List Record) (name : List (List ℕ)) → IsStrictlySortedBy record_order zone
    → IsNonDecreasingBy (λ r. ordering_index (from_owner name r)) zone
owners_searchable zone name up =
    searchable_from_sorted canonical_total (λ (r : Record). r.owner) zone name (owners_rise zone up)

pub keys_searchable : (zone : List Record) (name : List (List ℕ)) (kind : ℕ) → IsStrictlySortedBy record_order zone
    → IsNonDecreasingBy (λ r. ordering_index (from_key name kind r)) zone
keys_searchable zone name kind up = searchable_from_sorted key_total key zone (name, kind) (keys_rise zone up)

-- what the searches ask
pub owners_before : (zone : List Record) (name : List (List ℕ)) → IsStrictlySortedBy record_order zone
    → IsPartitionedBy (λ r. is_lt (from_owner name r)) zone
owners_before zone name up = partitioned_lt (from_owner name) zone (owners_searchable zone name up)

pub owners_upto : (zone : List Record) (name : List (List ℕ)) → IsStrictlySortedBy record_order zone
    → IsPartitionedBy (λ r. is_le (from_owner name r)) zone
owners_upto zone name up = partitioned_le (from_owner name) zone (owners_searchable zone name up)

pub keys_before : (zone : List Record) (name : List (List ℕ)) (kind : ℕ) → IsStrictlySortedBy record_order zone
    → IsPartitionedBy (λ r. is_lt (from_key name kind r)) zone
keys_before zone name kind up = partitioned_lt (from_key name kind) zone (keys_searchable zone name kind up)

pub keys_upto : (zone : List Record) (name : List (List ℕ)) (kind : ℕ) → IsStrictlySortedBy record_order zone
    → IsPartitionedBy (λ r. is_le (from_key name kind r)) zone
keys_upto zone name kind up = partitioned_le (from_key name kind) zone (keys_searchable zone name kind up)

-- records in order stay as they are when they are put in order
placed_first : (r : Record) (rs : List Record) → AllByRecursion (λ s. record_order r s ≡ Less) rs
    → insertion r rs ≡ r ∷ rs
unfolding insertion
placed_first r [] h = refl
placed_first r (s ∷ ss) h = rw h.0 refl

pub in_order_stays : (rs : List Record) → IsStrictlySortedBy record_order rs → in_order rs ≡ rs
unfolding in_order
in_order_stays [] up = refl
in_order_stays (r ∷ rs) up =
    rw (in_order_stays rs (sorted_tail record_order r rs up)) (placed_first r rs (sorted_head record_order r rs up))

pub records_of_is : (zone : List Record) (name : List (List ℕ)) → IsStrictlySortedBy record_order zone
    → records_of zone name ≡ filter (λ r. same_name r.owner name) zone
records_of_is zone name up =
    in_order_stays _ (IsStrictlySortedBy-filter record_order (λ r. same_name r.owner name) zone up)

-- the records of an owner and a type are of this owner
owned_filter : (name : List (List ℕ)) (kind : ℕ) (rs : List Record)
    → AllByRecursion (λ r. r.owner ≡ name) (of_type kind (filter (λ r. same_name r.owner name) rs))
owned_filter name kind [] = tt
owned_filter name kind (r ∷ rs) = elim (cases_Bool (same_name r.owner name)) [
  | inl own ↦ elim (cases_Bool (r.kind == kind)) [
    | inl of_kind ↦ rw (own, of_kind) ((same_decides r.owner name).0 own, owned_filter name kind rs)
    | inr another ↦ rw (own, another) (owned_filter name kind rs)
  ]
  | inr another ↦ rw another (owned_filter name kind rs)
]

pub owned : (zone : List Record) (name : List (List ℕ)) (kind : ℕ) → IsStrictlySortedBy record_order zone
    → AllByRecursion (λ r. r.owner ≡ name) (of_type kind (records_of zone name))
owned zone name kind up = rw (records_of_is zone name up) (owned_filter name kind zone)

-- the run of an owner
pub owner_run : (zone : List Record) (name : List (List ℕ)) (i j : ℕ) → IsStrictlySortedBy record_order zone
    → i ≤ length zone → j ≤ length zone
    → IsBegin (from_owner name) zone i → IsEnd (from_owner name) zone j
    → take (j - i) (drop i zone) ≡ records_of zone name
owner_run zone name i j up low_in high_in low high =
    run_is (from_owner name) zone i j low_in high_in low high
    ∙ (filter_agree (λ r. is_eq (from_owner name r)) (λ r. same_name r.owner name)
    (λ r. sym (same_ties r.owner name)) zone ∙ sym (records_of_is zone name up))

-- the run of an owner and a type
both_equal : (o : Ordering) (a b : ℕ) → is_eq (ordering_then o (nat_cmp a b)) ≡ (is_eq o && (a == b))
both_equal Less a b = refl
both_equal Equal a b = grind (arith, nat_tests)
both_equal Greater a b = refl

filter_both : {X : Type 0} (p q : X → Bool) (xs : List X) → filter (λ x. p x && q x) xs ≡ filter q (filter p xs)
filter_both p q [] = refl
filter_both p q (x ∷ xs) = elim (cases_Bool (p x)) [
  | inr fails ↦ rw (fails, filter_both p q xs) refl
  | inl passes ↦ elim (cases_Bool (q x)) [
    | inl also ↦ rw (passes, also, filter_both p q xs) refl
    | inr not_also ↦ rw (passes, not_also, filter_both p q xs) refl
  ]
]

-- the records of an owner and a type, kept of the whole zone
pub key_filter : (zone : List Record) (name : List (List ℕ)) (kind : ℕ) → IsStrictlySortedBy record_order zone
    → filter (λ r. is_eq (from_key name kind r)) zone ≡ of_type kind (records_of zone name)
key_filter zone name kind up =
    let test : (r : Record) → is_eq (from_key name kind r) ≡ (same_name r.owner name && (r.kind == kind)) =
    λ r. both_equal (canonical_order r.owner name) r.kind kind
    ∙ ap (λ b. b && (r.kind == kind)) (sym (same_ties r.owner name)) in
    filter_agree (λ r. is_eq (from_key name kind r)) (λ r. same_name r.owner name && (r.kind == kind)) test zone
    ∙ (filter_both (λ r. same_name r.owner name) (λ r. r.kind == kind) zone
    ∙ ap (of_type kind) (sym (records_of_is zone name up)))

pub key_run : (zone : List Record) (name : List (List ℕ)) (kind i j : ℕ) → IsStrictlySortedBy record_order zone
    → i ≤ length zone → j ≤ length zone
    → IsBegin (from_key name kind) zone i → IsEnd (from_key name kind) zone j
    → take (j - i) (drop i zone) ≡ of_type kind (records_of zone name)
key_run zone name kind i j up low_in high_in low high =
    run_is (from_key name kind) zone i j low_in high_in low high ∙ key_filter zone name kind up

-- an owner owns a type where the search for their begin ends at such a record
eq_between : (o p : Ordering) → is_lt o ≡ false → ordering_index o ≤ ordering_index p → is_eq p ≡ true → is_eq o ≡ true
eq_between Less p low up same = absurd (cc)
eq_between Equal p low up same = refl
eq_between Greater Less low up same = absurd (cc)
eq_between Greater Equal low up same = absurd (omega arith)
eq_between Greater Greater low up same = absurd (cc)

not_both : (o : Ordering) → is_lt o ≡ true → is_eq o ≡ true → ⊥
not_both Less low same = absurd (cc)
not_both Equal low same = absurd (cc)
not_both Greater low same = absurd (cc)

swapped : (s t : Bool) → (s && t) ≡ (t && s)
swapped true true = refl
swapped true false = refl
swapped false true = refl
swapped false false = refl

pub key_test : (name : List (List ℕ)) (kind : ℕ) (r : Record)
    → is_eq (from_key name kind r) ≡ ((r.kind == kind) && same_name r.owner name)
key_test name kind r =
    both_equal (canonical_order r.owner name) r.kind kind
    ∙ (ap (λ b. b && (r.kind == kind)) (sym (same_ties r.owner name))
    ∙ swapped (same_name r.owner name) (r.kind == kind))

pub owns_here : (zone : List Record) (name : List (List ℕ)) (kind i : ℕ) (d : Record)
    → IsStrictlySortedBy record_order zone → IsBegin (from_key name kind) zone i → i < length zone
    → d ≡ get_or zone i d → ((d.kind == kind) && same_name d.owner name) ≡ owns zone kind name
owns_here zone name kind i d up begin within item =
    both_ways ((d.kind == kind) && same_name d.owner name) (owns zone kind name)
    (λ t. list_any_at (λ r. (r.kind == kind) && same_name r.owner name) zone i d within (rw (← item) t))
    (λ t.
    let some = Any-from_list_any (λ r. (r.kind == kind) && same_name r.owner name) zone t in
    let k = some.0 in
    let r = some.1 in
    let same : is_eq (from_key name kind r) ≡ true = key_test name kind r ∙ some.4 in
    let there : is_eq (from_key name kind (get_or zone k r)) ≡ true = rw some.3 same in
    elim (cases_lt k i) [
      | inl before ↦ absurd (not_both (from_key name kind (get_or zone k r)) (begin.0 k r (omega arith) before) there)
      | inr from ↦
          let here : is_eq (from_key name kind (get_or zone i r)) ≡ true =
          eq_between (from_key name kind (get_or zone i r)) (from_key name kind (get_or zone k r))
          (begin.1 i r (omega arith) within)
          (keys_searchable zone name kind up i k r from some.2) there in
          let e : get_or zone i r ≡ d = get_or_default zone i r d within ∙ sym item in
          sym (key_test name kind d) ∙ (ap (λ x. is_eq (from_key name kind x)) (sym e) ∙ here)
    ])

pub owns_none : (zone : List Record) (name : List (List ℕ)) (kind i : ℕ) → IsBegin (from_key name kind) zone i
    → length zone ≤ i → false ≡ owns zone kind name
owns_none zone name kind i begin past =
    sym (list_any_none (λ r. (r.kind == kind) && same_name r.owner name) zone (λ k d h.
    false_from_ne_true (((get_or zone k d).kind == kind) && same_name (get_or zone k d).owner name) (λ t.
    not_both (from_key name kind (get_or zone k d)) (begin.0 k d (omega arith) (omega arith))
    (key_test name kind (get_or zone k d) ∙ t))))

-- a name that owns no records of a type has none to show
pub no_run : (zone : List Record) (name : List (List ℕ)) (kind : ℕ) → IsStrictlySortedBy record_order zone
    → owns zone kind name ≡ false → [] ≡ of_type kind (records_of zone name)
no_run zone name kind up none =
    sym (filter_none (λ r. is_eq (from_key name kind r)) zone (λ k d h.
    false_from_ne_true (is_eq (from_key name kind (get_or zone k d))) (λ t.
    let found : owns zone kind name ≡ true = list_any_at (λ r. (r.kind == kind) && same_name r.owner name) zone k d h
    (sym (key_test name kind (get_or zone k d)) ∙ t) in
    cc)))
    ∙ key_filter zone name kind up
