-- Where the first element of a list that passes a test is.
use Rattle.std.proofs.Common.{◌≡◌, ℕ, zero, suc, ◌<◌, ◌≤◌, Bool, true, false, List, [], ◌∷◌, ◌++◌, length, take, drop}
use Rattle.std.proofs.Common.{get_or, cond, nat_lt, subst, refl, sym, ap, arith, Some, None}
use Rattle.std.proofs.lemmas.Bool.Decides.{nat_tests}
use Rattle.std.proofs.lemmas.List.{take_all}
use Rattle.std.proofs.lemmas.List.Sums.{fails_before_first}
use Rattle.std.specs.List.{AllByRecursion, position, position_or_len}

-- none of those before it passes
pub front_fails : {X : Type 0} (p : X → Bool) (xs : List X) (i : ℕ) (d : X)
    → ((k : ℕ) → k < i → k < length xs → p (get_or xs k d) ≡ false) → AllByRecursion (λ x. p x ≡ false) (take i xs)
front_fails p [] zero d h = tt
front_fails p [] (suc i) d h = tt
front_fails p (x ∷ xs) zero d h = tt
front_fails p (x ∷ xs) (suc i) d h =
    (h 0 (omega arith) (omega arith), front_fails p xs i d (λ k b l. h (suc k) (omega arith) (omega arith)))

not_some : (b : Bool) (n : ℕ) → cond b (Some n) None ≡ None → b ≡ false
not_some true n e = absurd (cc)
not_some false n e = refl

pub none_passes : {X : Type 0} (p : X → Bool) (xs : List X) → position p xs ≡ None
    → AllByRecursion (λ x. p x ≡ false) xs
none_passes p [] e = tt
none_passes p (x ∷ xs) e =
    let b = not_some (nat_lt (position_or_len p (x ∷ xs)) (length (x ∷ xs))) (position_or_len p (x ∷ xs)) e in
    let l : length (x ∷ xs) ≤ position_or_len p (x ∷ xs) = grind (arith, nat_tests) in
    subst (λ l. AllByRecursion (λ y. p y ≡ false) l) (take_all (length (x ∷ xs)) (x ∷ xs) (omega arith))
    (front_fails p (x ∷ xs) (length (x ∷ xs)) x (λ k b i. fails_before_first p (x ∷ xs) k x (omega arith)))

-- what follows a place
pub some_behind : {X : Type 0} (xs : List X) (n : ℕ) → n < length xs → (y : X) × (ys : List X) × (drop n xs ≡ y ∷ ys)
some_behind [] n h = absurd (omega arith)
some_behind (x ∷ xs) zero h = (x, xs, refl)
some_behind (x ∷ xs) (suc n) h = some_behind xs n (omega arith)

pub none_behind : {X : Type 0} (xs : List X) (n : ℕ) → length xs ≤ n → drop n xs ≡ []
none_behind [] zero h = refl
none_behind [] (suc n) h = refl
none_behind (x ∷ xs) zero h = absurd (omega arith)
none_behind (x ∷ xs) (suc n) h = none_behind xs n (omega arith)

-- a list is cut at a place
pub cut_at : {X : Type 0} (xs : List X) (i : ℕ) (x : X) → i < length xs → x ≡ get_or xs i x
    → xs ≡ take i xs ++ x ∷ drop (suc i) xs
cut_at [] i x h e = absurd (omega arith)
cut_at (y ∷ xs) zero x h e = ap (λ z. z ∷ xs) (sym e)
cut_at (y ∷ xs) (suc i) x h e = ap (λ l. y ∷ l) (cut_at xs i x (omega arith) e)
