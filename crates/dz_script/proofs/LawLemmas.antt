-- The fields of a line have no space, and joined they are the line.
use Rattle.std.proofs.Common.{inl, inr, ◌≡◌, ℕ, Bool, true, false, List, [], ◌∷◌, refl}
use Rattle.std.specs.Prelude.{◌==◌, not}
use Rattle.std.specs.List.{list_all, slice_split, onto_first}
use Rattle.std.proofs.lemmas.Bool.{cases_Bool}
use Rattle.std.proofs.lemmas.List.Splits.{slice_split-cons_yes, slice_split-cons_no, join_with_byte-slice_split}
use Rattle.dz_script.specs.Laws.{IsCut}

-- an element before the first part
front_fails : (p : ℕ → Bool) (x : ℕ) (parts : List (List ℕ)) → p x ≡ false
    → list_all (λ part. list_all (λ y. not (p y)) part) parts ≡ true
    → list_all (λ part. list_all (λ y. not (p y)) part) (onto_first x parts) ≡ true
front_fails p x [] f all = rw f refl
front_fails p x (part ∷ parts) f all = rw f all

-- no part has an element at which the list is cut
parts_fail : (p : ℕ → Bool) (xs : List ℕ) → list_all (λ part. list_all (λ x. not (p x)) part) (slice_split p xs) ≡ true
parts_fail p [] = refl
parts_fail p (x ∷ xs) = elim (cases_Bool (p x)) [
  | inl t ↦ rw (slice_split-cons_yes p x xs t) (parts_fail p xs)
  | inr f ↦ rw (slice_split-cons_no p x xs f) (front_fails p x (slice_split p xs) f (parts_fail p xs))
]

pub is_cut : (line : List ℕ) → IsCut line
is_cut line = record { whole = join_with_byte-slice_split 32 line; unbroken = parts_fail (λ x. x == 32) line }
