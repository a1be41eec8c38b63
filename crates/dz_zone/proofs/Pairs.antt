-- Pairs of elements, and what a list in order keeps.
use Rattle.std.proofs.Common.{◌≡◌, ℕ, ◌+◌, ◌<◌, Bool, true, false, not, ◌||◌, List, [], ◌∷◌, length, refl, sym, ◌∙◌}
use Rattle.std.proofs.Common.{ap, arith, get_or, drop, inl, inr, zero, suc, ◌≤◌}
use Rattle.std.specs.Prelude.{filter}
use Rattle.std.specs.List.{AllByRecursion, list_any, sum_by, IsAllAdjacentAnswer, AllAdjacentBelow}
use Rattle.std.proofs.lemmas.Bool.{cases_Bool, or_cases, or_left, or_right}
use Rattle.std.proofs.lemmas.List.{drop_more, drop_all}
use Rattle.std.proofs.lemmas.List.Sums.{sum_by-cons}
use Rattle.dz_zone.specs.Valid.{some_two}
use Rattle.dz_zone.specs.inner.Neighbours.{neighbours_from, neighbours}
use Rattle.dz_zone.proofs.Ordered.{put, puts, Ascends}

or_swap : (a b c : Bool) → (a || (b || c)) ≡ (b || (a || c))
or_swap true true c = refl
or_swap true false c = refl
or_swap false true c = refl
or_swap false false c = refl

module _ {X : Type 0} (lt : X → X → Bool) where
  any_put : (p : X → Bool) (x : X) (ys : List X) → list_any p (put lt x ys) ≡ (p x || list_any p ys)
  unfolding put
  any_put p x [] = refl
  any_put p x (y ∷ ys) =
      elim (cases_Bool (lt y x)) [
        | inl t ↦ rw (t, any_put p x ys) (or_swap (p y) (p x) (list_any p ys))
        | inr f ↦ rw f refl
      ]

  pub any_puts : (p : X → Bool) (xs : List X) → list_any p (puts lt xs) ≡ list_any p xs
  unfolding puts
  any_puts p [] = refl
  any_puts p (x ∷ xs) = any_put p x (puts lt xs) ∙ ap (λ b. p x || b) (any_puts p xs)

  sum_put : (f : X → ℕ) (x : X) (ys : List X) → sum_by f (put lt x ys) ≡ f x + sum_by f ys
  unfolding put
  sum_put f x [] = sum_by-cons f x []
  sum_put f x (y ∷ ys) =
      elim (cases_Bool (lt y x)) [
        | inl t ↦ rw t (let a = sum_by-cons f y (put lt x ys) in
            let b = sum_by-cons f y ys in let h = sum_put f x ys in omega arith)
        | inr g ↦ rw g (sum_by-cons f x (y ∷ ys))
      ]

  pub sum_puts : (f : X → ℕ) (xs : List X) → sum_by f (puts lt xs) ≡ sum_by f xs
  unfolding puts
  sum_puts f [] = refl
  sum_puts f (x ∷ xs) =
      let a = sum_put f x (puts lt xs) in
      let b = sum_by-cons f x xs in
      let h = sum_puts f xs in omega arith

  length_put : (x : X) (ys : List X) → length (put lt x ys) ≡ suc (length ys)
  unfolding put
  length_put x [] = refl
  length_put x (y ∷ ys) =
      elim (cases_Bool (lt y x)) [
        | inl t ↦ rw t (ap suc (length_put x ys))
        | inr f ↦ rw f refl
      ]

  pub length_puts : (xs : List X) → length (puts lt xs) ≡ length xs
  unfolding puts
  length_puts [] = refl
  length_puts (x ∷ xs) = length_put x (puts lt xs) ∙ ap suc (length_puts xs)

  two_step : (a b c d : Bool) → ((a || b) || (c || d)) ≡ ((a || c) || (b || d))
  two_step true b c d = refl
  two_step false true true d = refl
  two_step false true false d = refl
  two_step false false c d = refl

  two_put : (t : X → X → Bool) → ((x y : X) → t x y ≡ t y x) → (x : X) (ys : List X)
      → some_two t (put lt x ys) ≡ (list_any (t x) ys || some_two t ys)
  unfolding put some_two
  two_put t back x [] = refl
  two_put t back x (y ∷ ys) =
      elim (cases_Bool (lt y x)) [
        | inl u ↦ rw (u, any_put (t y) x ys, two_put t back x ys, back y x)
            (two_step (t x y) (list_any (t y) ys) (list_any (t x) ys) (some_two t ys))
        | inr f ↦ rw f refl
      ]

  pub two_puts : (t : X → X → Bool) → ((x y : X) → t x y ≡ t y x) → (xs : List X)
      → some_two t (puts lt xs) ≡ some_two t xs
  unfolding puts some_two
  two_puts t back [] = refl
  two_puts t back (x ∷ xs) = two_put t back x (puts lt xs) ∙ rw (any_puts (t x) xs, two_puts t back xs) refl

  far : (t : X → X → Bool) (keep : X → Bool)
      → ((x y z : X) → keep y ≡ true → lt y x ≡ false → lt z y ≡ false → t x z ≡ true → (t x y || t y z) ≡ true)
      → (x y : X) (zs : List X) → keep y ≡ true → lt y x ≡ false → AllByRecursion (λ z. lt z y ≡ false) zs
      → list_any (t x) zs ≡ true → (t x y || list_any (t y) zs) ≡ true
  far t keep gap x y [] k b above h = absurd (cc)
  far t keep gap x y (z ∷ zs) k b above h =
      elim (or_cases (t x z) (list_any (t x) zs) h) [
        | inl u ↦ elim (or_cases (t x y) (t y z) (gap x y z k b above.0 u)) [
          | inl v ↦ or_left (t x y) (t y z || list_any (t y) zs) v
          | inr v ↦ or_right (t x y) (t y z || list_any (t y) zs) (or_left (t y z) (list_any (t y) zs) v)
        ]
        | inr u ↦ elim (or_cases (t x y) (list_any (t y) zs) (far t keep gap x y zs k b above.1 u)) [
          | inl v ↦ or_left (t x y) (t y z || list_any (t y) zs) v
          | inr v ↦ or_right (t x y) (t y z || list_any (t y) zs) (or_right (t y z) (list_any (t y) zs) v)
        ]
      ]

  absorb : (a b c d : Bool) → (b ≡ true → (a || c) ≡ true) → ((a || b) || (c || d)) ≡ (a || (c || d))
  absorb true b c d h = refl
  absorb false false c d h = refl
  absorb false true true d h = refl
  absorb false true false d h = absurd (let e = h refl in cc)

  -- where what is between two elements that pass the test passes it with one of them, neighbours pass it too
  two_from : (t : X → X → Bool) (keep : X → Bool)
      → ((x y z : X) → keep y ≡ true → lt y x ≡ false → lt z y ≡ false → t x z ≡ true → (t x y || t y z) ≡ true)
      → (x : X) (ys : List X) → AllByRecursion (λ y. keep y ≡ true) ys → Ascends lt (x ∷ ys)
      → some_two t (x ∷ ys) ≡ neighbours_from t x ys
  unfolding some_two neighbours_from Ascends
  two_from t keep gap x [] k a = refl
  two_from t keep gap x (y ∷ ys) k a =
      rw (← two_from t keep gap y ys k.1 a.1)
      (absorb (t x y) (list_any (t x) ys) (list_any (t y) ys) (some_two t ys) (far t keep gap x y ys k.0 a.0.0 a.1.0))

  pub two_neighbours : (t : X → X → Bool) (keep : X → Bool)
      → ((x y z : X) → keep y ≡ true → lt y x ≡ false → lt z y ≡ false → t x z ≡ true → (t x y || t y z) ≡ true)
      → (xs : List X) → AllByRecursion (λ y. keep y ≡ true) xs → Ascends lt xs → some_two t xs ≡ neighbours t xs
  unfolding some_two
  two_neighbours t keep gap [] k a = refl
  two_neighbours t keep gap (x ∷ xs) k a = two_from t keep gap x xs k.1 a

  each_filter : (P : X → Type 0) (keep : X → Bool) (xs : List X) → AllByRecursion P xs
      → AllByRecursion P (filter keep xs)
  each_filter P keep [] h = tt
  each_filter P keep (x ∷ xs) h =
      elim (cases_Bool (keep x))
      [ inl t ↦ rw t (h.0, each_filter P keep xs h.1) | inr f ↦ rw f (each_filter P keep xs h.1) ]

  pub ascends_filter : (keep : X → Bool) (xs : List X) → Ascends lt xs → Ascends lt (filter keep xs)
  unfolding Ascends
  ascends_filter keep [] a = tt
  ascends_filter keep (x ∷ xs) a =
      elim (cases_Bool (keep x)) [
        | inl t ↦ rw t (each_filter (λ y. lt y x ≡ false) keep xs a.0, ascends_filter keep xs a.1)
        | inr f ↦ rw f (ascends_filter keep xs a.1)
      ]

pub each_kept : {X : Type 0} (keep : X → Bool) (xs : List X) → AllByRecursion (λ x. keep x ≡ true) (filter keep xs)
each_kept keep [] = tt
each_kept keep (x ∷ xs) =
    elim (cases_Bool (keep x)) [ inl t ↦ rw t (t, each_kept keep xs) | inr f ↦ rw f (each_kept keep xs) ]

pub each_true : {X : Type 0} (xs : List X) → AllByRecursion (λ x. true ≡ true) xs
each_true [] = tt
each_true (x ∷ xs) = (refl, each_true xs)

pub any_filter : {X : Type 0} (p keep : X → Bool) → ((x : X) → keep x ≡ false → p x ≡ false) → (xs : List X)
    → list_any p (filter keep xs) ≡ list_any p xs
any_filter p keep h [] = refl
any_filter p keep h (x ∷ xs) =
    elim (cases_Bool (keep x)) [
      | inl t ↦ rw (t, any_filter p keep h xs) refl
      | inr f ↦ rw (f, h x f) (any_filter p keep h xs)
    ]

pub any_no : {X : Type 0} (p : X → Bool) → ((x : X) → p x ≡ false) → (xs : List X) → list_any p xs ≡ false
any_no p h [] = refl
any_no p h (x ∷ xs) = rw (h x) (any_no p h xs)

pub two_filter : {X : Type 0} (t : X → X → Bool) (keep : X → Bool) → ((x y : X) → keep x ≡ false → t x y ≡ false)
    → ((x y : X) → keep y ≡ false → t x y ≡ false)
    → (xs : List X) → some_two t (filter keep xs) ≡ some_two t xs
unfolding some_two
two_filter t keep left right [] = refl
two_filter t keep left right (x ∷ xs) =
    elim (cases_Bool (keep x)) [
      | inl u ↦ rw (u, any_filter (t x) keep (right x) xs, two_filter t keep left right xs) refl
      | inr f ↦ rw (f, any_no (t x) (λ y. left x y f) xs) (two_filter t keep left right xs)
    ]

-- a first element that passes the test with no other
pub front_no : {X : Type 0} (t : X → X → Bool) (x : X) → ((y : X) → t x y ≡ false) → (xs : List X)
    → neighbours_from t x xs ≡ neighbours t xs
unfolding neighbours_from
front_no t x h [] = refl
front_no t x h (y ∷ ys) = rw (h y) refl

all_adjacent : {X : Type 0} (e : X → X → Bool) (x : X) (ys : List X)
    → AllAdjacentBelow (λ a b. true ≡ e a b) (x ∷ ys) (length (x ∷ ys))
    → neighbours_from (λ a b. not (e a b)) x ys ≡ false
unfolding neighbours_from
all_adjacent e x [] h = refl
all_adjacent e x (y ∷ ys) h =
    let first : true ≡ e x y = h 0 x (omega arith) in
    rw (← first) (all_adjacent e y ys (λ k d inside. let n : suc k + 1 ≡ suc (k + 1) = omega arith in
    rw n at (h (suc k) d (omega arith))))

some_adjacent : {X : Type 0} (e : X → X → Bool) (k : ℕ) (x : X) (ys : List X)
    → k + 1 < length (x ∷ ys) → ((d : X) → false ≡ e (get_or (x ∷ ys) k d) (get_or (x ∷ ys) (k + 1) d))
    → neighbours_from (λ a b. not (e a b)) x ys ≡ true
unfolding neighbours_from
some_adjacent e k x [] inside h = absurd (omega arith)
some_adjacent e zero x (y ∷ ys) inside h = let first : false ≡ e x y = h x in rw (← first) refl
some_adjacent e (suc k) x (y ∷ ys) inside h =
    let n : suc k + 1 ≡ suc (k + 1) = omega arith in
    or_right (not (e x y)) (neighbours_from (λ a b. not (e a b)) y ys)
    (some_adjacent e k y ys (omega arith) (λ d. rw n at (h d)))

-- what `is_sorted_by` answers
pub adjacent_answer : {X : Type 0} (e : X → X → Bool) (xs : List X) (r : Bool)
    → IsAllAdjacentAnswer (λ a b c. c ≡ e a b) xs r → not r ≡ neighbours (λ a b. not (e a b)) xs
adjacent_answer e [] true h = refl
adjacent_answer e [] false h = absurd (omega (arith, h.1))
adjacent_answer e (x ∷ xs) true h = sym (all_adjacent e x xs h)
adjacent_answer e (x ∷ xs) false h = sym (some_adjacent e h.0 x xs h.1 h.2)

-- a pass over neighbours that leaves out what the test doesn't keep: a step, what is left out, and the end
pub walk_step : {X : Type 0} (t : X → X → Bool) (keep : X → Bool) (last x : X) (rest : List X) (i : ℕ)
    → i < length rest → x ≡ get_or rest i x → keep x ≡ true
    → neighbours_from t last (filter keep (drop i rest))
    ≡ (t last x || neighbours_from t x (filter keep (drop (i + 1) rest)))
unfolding neighbours_from
walk_step t keep last x rest i h e k = rw (drop_more rest i x h, ← e, k) refl

pub walk_end : {X : Type 0} (t : X → X → Bool) (keep : X → Bool) (last : X) (rest : List X) (i : ℕ) → length rest ≤ i
    → neighbours_from t last (filter keep (drop i rest)) ≡ false
unfolding neighbours_from
walk_end t keep last rest i h = rw (drop_all i rest h) refl

pub two_none : {X : Type 0} (t : X → X → Bool) (xs : List X) → length xs < 1 → some_two t xs ≡ false
unfolding some_two
two_none t [] h = refl
two_none t (x ∷ xs) h = absurd (omega arith)
