-- One pass over records that rise: each step, and the end.
use Rattle.std.proofs.Common.{◌≡◌, ◌≢◌, ℕ, ◌+◌, ◌-◌, ◌<◌, ◌≤◌, Bool, true, false, List, [], length, take, get_or, refl}
use Rattle.std.proofs.Common.{sym, ◌∙◌, ap, arith, inl, inr}
use Rattle.std.specs.Prelude.{nat_lt}
use Rattle.std.specs.Ordering.{is_lt, is_gt, ordering_then, nat_cmp}
use Rattle.std.specs.declared.cmp.Ordering.{Ordering}
use Rattle.std.specs.declared.cmp.Ordering.TheVariants.{Less, Equal, Greater}
use Rattle.std.specs.List.{AllAdjacentBelow}
use Rattle.std.specs.List.Sorted.{IsStrictlySortedBy}
use Rattle.std.proofs.lemmas.Bool.{cases_lt}
use Rattle.std.proofs.lemmas.Bool.Decides.{nat_tests}
use Rattle.std.proofs.lemmas.List.{get_or-map, get_or-take, get_or_default, length-map, length-take-le}
use Rattle.dz_name.specs.Name.{canonical_order}
use Rattle.dz_record.specs.Record.{Record, record_order}
use Rattle.dz_index.specs.Index.{order_behind}
use Rattle.dz_zone.specs.Version.{owners_of}
use Rattle.dz_zone.specs.inner.Kept.{RisesAt}
use Rattle.dz_zone.proofs.RecordLemmas.{is_before, rise_walk}

some_before : (n : ℕ) → n ≢ 0 → nat_lt 0 n ≡ true
some_before n h = let lt : 0 < n = omega arith in grind (arith, nat_tests)

pub first_none : (owners : List (List (List ℕ))) (name : List (List ℕ)) (place : ℕ) (o : Ordering)
    → o ≡ order_behind (take place owners) name → place ≡ 0 → is_gt o ≡ false
first_none owners name place o h zero = rw (h, zero) refl

pub owner_there : (records : List Record) (place : ℕ) (r : Record) (name : List (List ℕ)) → place < length records
    → r ≡ get_or records place r → name ≡ r.owner → name ≡ get_or (owners_of records) place []
owner_there records place r name within is owned =
    owned ∙ (ap (λ (s : Record). s.owner) is ∙ sym (get_or-map (λ s. s.owner) records place r [] within))

-- the last of the owners before a place is that of the record before it
pub order_there : (records : List Record) (place : ℕ) (a b : Record) (o : Ordering) → place ≢ 0
    → place < length records → a ≡ get_or records (place - 1) a → b ≡ get_or records place b
    → o ≡ order_behind (take place (owners_of records)) (get_or (owners_of records) place [])
    → o ≡ canonical_order a.owner b.owner
order_there records place a b o some within is_a is_b h =
    let long : length (owners_of records) ≡ length records = length-map records (λ r. r.owner) in
    let short : length (take place (owners_of records)) ≡ place =
    length-take-le place (owners_of records) (omega (arith, long)) in
    let more : nat_lt 0 place ≡ true = some_before place some in
    let first : get_or (take place (owners_of records)) (place - 1) [] ≡ a.owner =
    get_or-take place (owners_of records) (place - 1) [] (omega arith)
    ∙ (get_or-map (λ r. r.owner) records (place - 1) a [] (omega arith) ∙ ap (λ (r : Record). r.owner) (sym is_a)) in
    let second : get_or (owners_of records) place [] ≡ b.owner =
    get_or-map (λ r. r.owner) records place b [] within ∙ ap (λ (r : Record). r.owner) (sym is_b) in
    rw (short, more, first, second) at h

before_gt : (o p q : Ordering) → is_lt (ordering_then (ordering_then o p) q) ≡ true → is_gt o ≡ false
before_gt Less p q h = refl
before_gt Equal p q h = refl
before_gt Greater p q h = absurd (cc)

pub not_behind : (a b : Record) (o : Ordering) (r : Bool) → o ≡ canonical_order a.owner b.owner
    → r ≡ is_lt (record_order a b) → r ≡ true → is_gt o ≡ false
not_behind a b o r e is t =
    ap is_gt e ∙ before_gt (canonical_order a.owner b.owner) (nat_cmp a.kind b.kind) _ (sym is ∙ t)

pub next_rises : (records : List Record) (place : ℕ) (a b : Record) (r : Bool) → place < length records
    → a ≡ get_or records (place - 1) a → b ≡ get_or records place b
    → r ≡ is_lt (record_order a b) → r ≡ true → RisesAt records place
next_rises records place a b r within is_a is_b is t = λ some d.
    let x : a ≡ get_or records (place - 1) d = is_a ∙ get_or_default records (place - 1) a d (omega arith) in
    let y : b ≡ get_or records place d = is_b ∙ get_or_default records place b d within in
    rw (x, y) at (sym is ∙ t)

pub more_rise : (records : List Record) (place : ℕ) → AllAdjacentBelow (λ a b. true ≡ is_before a b) records place
    → RisesAt records place
    → AllAdjacentBelow (λ a b. true ≡ is_before a b) records (place + 1)
more_rise records place up here = λ k d within. elim (cases_lt (k + 1) place) [
  | inl lt ↦ up k d lt
  | inr le ↦
      let e : place - 1 ≡ k = omega arith in
      let f : place ≡ k + 1 = omega arith in
      let h = here (omega arith) d in
      sym (rw (e, f) at h)
]

pub all_rise : (records : List Record) (place : ℕ) → AllAdjacentBelow (λ a b. true ≡ is_before a b) records place
    → length records ≤ place → IsStrictlySortedBy record_order records
all_rise records place up done = (rise_walk records true (λ k d within. up k d (omega arith))).0 refl
