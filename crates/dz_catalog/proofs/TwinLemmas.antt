-- Two PTR records of one owner are neighbours where the records ascend.
use Rattle.std.proofs.Common.{◌≡◌, ℕ, Bool, true, false, not, ◌&&◌, ◌||◌, List, [], ◌∷◌, refl, sym, ◌∙◌, ap, inl, inr}
use Rattle.std.specs.List.{IsAllAdjacentAnswer, list_any}
use Rattle.std.specs.List.Sorted.{IsStrictlySortedBy}
use Rattle.std.proofs.lemmas.Bool.{cases_Bool, and_parts, or_cases, or_left, or_right}
use Rattle.dz_name.specs.Name.{same_name}
use Rattle.dz_name.specs.Order.{same_decides}
use Rattle.dz_record.specs.Record.{Record, record_order}
use Rattle.dz_zone.specs.Valid.{some_two, both_are}
use Rattle.dz_zone.specs.inner.Neighbours.{neighbours}
use Rattle.dz_zone.proofs.RecordLemmas.{before, rising_ascends}
use Rattle.dz_zone.proofs.FaultLemmas.{both_gap}
use Rattle.dz_zone.proofs.Pairs.{two_neighbours, adjacent_answer, each_true}
use Rattle.dz_catalog.specs.Broken.{twins}

not_not : (b : Bool) → not (not b) ≡ b
not_not true = refl
not_not false = refl

pub one_owner : (x y : Record) → both_are 12 x y ≡ true → x.owner ≡ y.owner
unfolding both_are
one_owner x y t = (same_decides x.owner y.owner).0 (and_parts (same_name x.owner y.owner) _ t).0

twins_gap : (test : List (List ℕ) → Bool) (x y z : Record) → true ≡ true → before y x ≡ false → before z y ≡ false
    → twins test x z ≡ true → (twins test x y || twins test y z) ≡ true
unfolding twins
twins_gap test x y z k a b t =
    let p = and_parts (test x.owner) (both_are 12 x z) t in
    elim (or_cases (both_are 12 x y) (both_are 12 y z) (both_gap 12 x y z k a b p.1)) [
      | inl u ↦ or_left (test x.owner && both_are 12 x y) (test y.owner && both_are 12 y z) (rw (p.0, u) refl)
      | inr u ↦
          let e : y.owner ≡ x.owner = one_owner y z u ∙ sym (one_owner x z p.1) in
          let q : test y.owner ≡ true = rw e p.0 in
          or_right (test x.owner && both_are 12 x y) (test y.owner && both_are 12 y z) (rw (q, u) refl)
    ]

pub twins_walk : (test : List (List ℕ) → Bool) (rs : List Record) (r : Bool) → IsStrictlySortedBy record_order rs
    → IsAllAdjacentAnswer (λ a b c. c ≡ not (twins test a b)) rs r → not r ≡ some_two (twins test) rs
twins_walk test rs r up h =
    adjacent_answer (λ a b. not (twins test a b)) rs r h
    ∙ (ap (λ t. neighbours t rs) (λ i a b. not_not (twins test a b) i)
    ∙ sym (two_neighbours before (twins test) (λ _. true) (twins_gap test) rs (each_true rs) (rising_ascends rs up)))

-- where no owner has two PTR records, none that passes a test has
pub pairs_walk : (rs : List Record) (r : Bool) → IsStrictlySortedBy record_order rs
    → IsAllAdjacentAnswer (λ a b c. c ≡ not (both_are 12 a b)) rs r → not r ≡ some_two (both_are 12) rs
unfolding twins
pairs_walk rs r up h = twins_walk (λ _. true) rs r up h

none_any : {X : Type 0} (p q : X → Bool) → ((y : X) → q y ≡ false → p y ≡ false) → (xs : List X)
    → list_any q xs ≡ false → list_any p xs ≡ false
none_any p q w [] e = refl
none_any p q w (x ∷ xs) e =
    elim (cases_Bool (q x)) [
      | inl t ↦ absurd (let s : true ≡ false = rw t at e in cc)
      | inr f ↦ let rest : list_any q xs ≡ false = rw f at e in rw (w x f, none_any p q w xs rest) refl
    ]

no_twins : (test : List (List ℕ) → Bool) (x y : Record) → both_are 12 x y ≡ false → twins test x y ≡ false
unfolding twins
no_twins test x y e = elim (cases_Bool (test x.owner)) [
  | inl t ↦ rw (t, e) refl
  | inr f ↦ rw f refl
]

pub none_twin : (test : List (List ℕ) → Bool) (rs : List Record) → some_two (both_are 12) rs ≡ false
    → some_two (twins test) rs ≡ false
unfolding some_two
none_twin test [] e = refl
none_twin test (x ∷ xs) e =
    elim (cases_Bool (list_any (both_are 12 x) xs)) [
      | inl t ↦ absurd (let s : true ≡ false = rw t at e in cc)
      | inr f ↦
          let rest : some_two (both_are 12) xs ≡ false = rw f at e in
          rw (none_any (twins test x) (both_are 12 x) (no_twins test x) xs f, none_twin test xs rest) refl
    ]
