-- What is at the front of a buffer.
use Rattle.std.proofs.Common.{◌≡◌, ℕ, zero, suc, ◌≤◌, length, List, [], ◌∷◌, ◌++◌, take, refl, ap, ◌∙◌, arith}
use Rattle.std.proofs.lemmas.List.{take-append-le}

take_twice : {A : Type 0} (n m : ℕ) (xs : List A) → n ≤ m → take n (take m xs) ≡ take n xs
take_twice zero m xs less = refl
take_twice (suc n) zero xs less = absurd (omega arith)
take_twice (suc n) (suc m) [] less = refl
take_twice (suc n) (suc m) (x ∷ xs) less = ap (λ ys. x ∷ ys) (take_twice n m xs (omega arith))

pub front_kept : {A : Type 0} (n m : ℕ) (xs rest : List A) → n ≤ length xs → n ≤ m
    → take n (take m (xs ++ rest)) ≡ take n xs
front_kept n m xs rest within room = take_twice n m (xs ++ rest) room ∙ take-append-le n xs rest within
