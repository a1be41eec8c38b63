-- What a search in a list finds.
use Rattle.std.proofs.Common.{◌≡◌, ℕ, ◌<◌, Bool, true, List, [], ◌∷◌, length, get_or, sym, ◌∙◌, ap, arith, inl, inr}
use Rattle.std.proofs.Common.{Some, None}
use Rattle.std.specs.Prelude.{Option, nat_lt, slice_get, position, IfSome}
use Rattle.std.specs.Option.{option_and_then}
use Rattle.std.specs.List.{find, position_or_len}
use Rattle.std.proofs.lemmas.Bool.{cases_Bool}
use Rattle.std.proofs.lemmas.Bool.Decides.{nat_tests}
use Rattle.std.proofs.lemmas.Option.{slice_get-get_or}
use Rattle.dz_member.proofs.SearchLemmas.{place_found}

pub found_passes : {X : Type 0} (p : X → Bool) (xs : List X) (x : X) → Some x ≡ find p xs → p x ≡ true
found_passes p [] x e = absurd (cc)
found_passes p (y ∷ ys) x e = elim (cases_Bool (p y)) [
  | inl t ↦ let s : Some x ≡ Some y = rw t at e in let f : x ≡ y = cc in rw f t
  | inr f ↦ found_passes p ys x (rw f at e)
]

pub place_within : {X : Type 0} (p : X → Bool) (xs : List X) (k : ℕ) → Some k ≡ position p xs → k < length xs
place_within p xs k e = elim (cases_Bool (nat_lt (position_or_len p xs) (length xs))) [
  | inl t ↦ let s : Some k ≡ Some (position_or_len p xs) = rw t at e in
      let f : k ≡ position_or_len p xs = cc in
      rw f (grind (arith, nat_tests))
  | inr f ↦ absurd (let s : Some k ≡ None = rw f at e in cc)
]

pub place_passes : {X : Type 0} (p : X → Bool) (xs : List X) (k : ℕ) (d : X) → Some k ≡ position p xs
    → p (get_or xs k d) ≡ true
place_passes p xs k d e = found_passes p xs (get_or xs k d)
    (place_found p xs k (get_or xs k d) (sym e) (slice_get-get_or xs k d (place_within p xs k e)))

-- what is read at a place is read of what is found
read_from : {X Y : Type 0} (f : X → Option Y) (o : Option X) (y : Y) → IfSome o (λ x. f x ≡ Some y) → (x : X)
    → o ≡ Some x → f x ≡ Some y
read_from f None y h x e = absurd (cc)
read_from f (Some z) y h x e = let s : z ≡ x = cc in rw s at h

pub place_read : {X Y : Type 0} (p : X → Bool) (f : X → Option Y) (xs : List X) (k : ℕ) (y : Y)
    → Some k ≡ position p xs → IfSome (slice_get xs k) (λ x. f x ≡ Some y)
    → Some y ≡ option_and_then f (find p xs)
place_read p f [] k y e h = absurd (omega (arith, place_within p [] k e))
place_read p f (d ∷ rest) k y e h =
    let xs = d ∷ rest in
    let there : slice_get xs k ≡ Some (get_or xs k d) = slice_get-get_or xs k d (place_within p xs k e) in
    sym (read_from f (slice_get xs k) y h (get_or xs k d) there)
    ∙ ap (option_and_then f) (place_found p xs k (get_or xs k d) (sym e) there)

-- the same of a function that may give nothing of what is there
told_from : {X Y : Type 0} (f : X → Option Y) (o : Option X) (y : Option Y) → IfSome o (λ x. f x ≡ y) → (x : X)
    → o ≡ Some x → f x ≡ y
told_from f None y h x e = absurd (cc)
told_from f (Some z) y h x e = let s : z ≡ x = cc in rw s at h

pub place_told : {X Y : Type 0} (p : X → Bool) (f : X → Option Y) (xs : List X) (k : ℕ) (y : Option Y)
    → Some k ≡ position p xs → IfSome (slice_get xs k) (λ x. f x ≡ y)
    → y ≡ option_and_then f (find p xs)
place_told p f [] k y e h = absurd (omega (arith, place_within p [] k e))
place_told p f (d ∷ rest) k y e h =
    let xs = d ∷ rest in
    let there : slice_get xs k ≡ Some (get_or xs k d) = slice_get-get_or xs k d (place_within p xs k e) in
    sym (told_from f (slice_get xs k) y h (get_or xs k d) there)
    ∙ ap (option_and_then f) (place_found p xs k (get_or xs k d) (sym e) there)
