-- What a search by halves finds among keys that rise: the first that ties.
use Rattle.std.proofs.Common.{◌≡◌, ℕ, ◌+◌, ◌<◌, Bool, true, false, not, List, [], ◌∷◌, map, length, get_or, refl, sym}
use Rattle.std.proofs.Common.{◌∙◌, ap, arith, inl, inr, Ordering, Less, Equal, Greater, is_eq, is_lt}
use Rattle.std.specs.Prelude.{Some, None, nat_lt, position, slice_get}
use Rattle.std.specs.Cmp.{IsTotalOrder}
use Rattle.std.specs.Ordering.{ordering_index, ordering_reverse}
use Rattle.std.specs.Bool.{Decides}
use Rattle.std.specs.List.{IsAllAdjacentAnswer, find, HoldsAt, position_or_len, prefix_len}
use Rattle.std.specs.List.Sorted.{IsStrictlySortedBy, IsNonDecreasingBy, IsPartitionPoint}
use Rattle.std.proofs.lemmas.Option.{slice_get_past, slice_get_read}
use Rattle.std.proofs.lemmas.Cmp.{alike_right}
use Rattle.std.proofs.lemmas.List.{get_or-map, length-map}
use Rattle.std.proofs.lemmas.List.Sums.{position_or_len_is}
use Rattle.std.proofs.lemmas.List.Folds.{find_at as find_at_position}
use Rattle.std.proofs.lemmas.List.Sorted.{searchable_from_sorted}
use Rattle.std.proofs.lemmas.Map.Keys.{Less-from_sorted, sorted_from_all_adjacent}
use Rattle.std.proofs.lemmas.Bool.{cases_Bool, cases_lt}
use Rattle.std.proofs.lemmas.Bool.Decides.{nat_tests}

pub less_from : (k : Ordering) → is_lt k ≡ true → k ≡ Less
less_from Less h = refl
less_from Equal h = absurd (cc)
less_from Greater h = absurd (cc)

module _ {K X : Type 0} {R : K → K → Ordering} (o : IsTotalOrder R) (f : X → K) where
  pub less_at : (xs : List X) (k i : ℕ) (d : X) → IsStrictlySortedBy R (map f xs) → k < i → i < length xs
      → R (f (get_or xs k d)) (f (get_or xs i d)) ≡ Less
  less_at xs k i d up less inside =
      let a : get_or (map f xs) k (f d) ≡ f (get_or xs k d) = get_or-map f xs k d (f d) (omega arith) in
      let b : get_or (map f xs) i (f d) ≡ f (get_or xs i d) = get_or-map f xs i d (f d) inside in
      rw (a, b) at (Less-from_sorted R (map f xs) k i (f d) up less (omega (arith, length-map xs f)))

  pub searchable : (z : K) (xs : List X) → IsStrictlySortedBy R (map f xs)
      → IsNonDecreasingBy (λ y. ordering_index (R (f y) z)) xs
  searchable z xs up = searchable_from_sorted o f xs z (λ k d low inside.
      let l = less_at xs k (k + 1) d up (omega arith) inside in
      let g : R (f (get_or xs (k + 1) d)) (f (get_or xs k d)) ≡ Greater =
      o.antisymm (f (get_or xs (k + 1) d)) (f (get_or xs k d)) ∙ ap ordering_reverse l in
      rw g refl)

  -- what a pass over neighbours answers
  pub rise_answer : (xs : List X) (r : Bool) → IsAllAdjacentAnswer (λ a b c. c ≡ is_lt (R (f a) (f b))) xs r
      → Decides r (IsStrictlySortedBy R (map f xs))
  unfolding IsStrictlySortedBy
  rise_answer [] true h = (λ t. tt, λ s. refl)
  rise_answer [] false h = absurd (omega (arith, h.1))
  rise_answer (x ∷ xs) true h = (
    λ t. sorted_from_all_adjacent o (map f (x ∷ xs)) (f x) (λ k lt.
        let inside : k + 1 < length (x ∷ xs) = omega (arith, length-map (x ∷ xs) f) in
        let a : get_or (map f (x ∷ xs)) k (f x) ≡ f (get_or (x ∷ xs) k x) =
        get_or-map f (x ∷ xs) k x (f x) (omega arith) in
        let b : get_or (map f (x ∷ xs)) (k + 1) (f x) ≡ f (get_or (x ∷ xs) (k + 1) x) =
        get_or-map f (x ∷ xs) (k + 1) x (f x) inside in
        rw (a, b) (less_from (R (f (get_or (x ∷ xs) k x)) (f (get_or (x ∷ xs) (k + 1) x))) (sym (h k x inside)))),
    λ s. refl,
  )
  rise_answer (x ∷ xs) false h = (
    λ t. absurd (cc),
    λ s.
        let l = less_at (x ∷ xs) h.0 (h.0 + 1) x s (omega arith) h.1 in
        let e : false ≡ true = h.2 x ∙ rw l refl in absurd (cc),
  )

  module _ (p : X → Bool) (z : K) (is : (y : X) → p y ≡ is_eq (R (f y) z)) where
    place_of : (xs : List X) (i : ℕ) (d : X) → i < length xs → IsStrictlySortedBy R (map f xs)
        → HoldsAt (λ y. R (f y) z ≡ Equal) xs i → position_or_len p xs ≡ i
    place_of xs i d lt up ties =
        position_or_len_is p xs i d (omega arith)
        (λ k less.
        let below : R (f (get_or xs k d)) z ≡ Less =
        sym (alike_right o (f (get_or xs i d)) z (f (get_or xs k d)) (ties d)) ∙ less_at xs k i d up less lt in
        is (get_or xs k d) ∙ ap is_eq below)
        (λ l. is (get_or xs i d) ∙ ap is_eq (ties d))

    no_place_of : (xs : List X) (i : ℕ) (d : X)
        → IsPartitionPoint (λ y. R (f y) z ≡ Less) (λ y. R (f y) z ≡ Greater) xs i → position_or_len p xs ≡ length xs
    no_place_of xs i d h =
        position_or_len_is p xs (length xs) d (omega arith)
        (λ k less. elim (cases_lt k i) [
          | inl lt ↦ is (get_or xs k d) ∙ ap is_eq (h.0 k d (omega arith) lt)
          | inr ge ↦ is (get_or xs k d) ∙ ap is_eq (h.1 k d ge less)
        ])
        (λ l. absurd (omega arith))

    pub place_at : (xs : List X) (i : ℕ) (d : X) → i < length xs → IsStrictlySortedBy R (map f xs)
        → HoldsAt (λ y. R (f y) z ≡ Equal) xs i → Some i ≡ position p xs
    place_at xs i d lt up ties =
        let e = place_of xs i d lt up ties in
        let t : nat_lt i (length xs) ≡ true = grind (arith, nat_tests) in
        rw (e, t) refl

    pub place_gap : (xs : List X) (i : ℕ) (d : X)
        → IsPartitionPoint (λ y. R (f y) z ≡ Less) (λ y. R (f y) z ≡ Greater) xs i → None ≡ position p xs
    place_gap xs i d h =
        let e = no_place_of xs i d h in
        let n : nat_lt (length xs) (length xs) ≡ false = grind (arith, nat_tests) in
        rw (e, n) refl

-- a place is that of what is found
pub place_found : {X : Type 0} (p : X → Bool) (xs : List X) (i : ℕ) (x : X) → position p xs ≡ Some i
    → slice_get xs i ≡ Some x → Some x ≡ find p xs
place_found p xs i x at e =
    elim (cases_Bool (nat_lt (position_or_len p xs) (length xs))) [
      | inl t ↦
          let same : position_or_len p xs ≡ i = (let s : Some (position_or_len p xs) ≡ Some i = rw t at at in cc) in
          sym (find_at_position p xs ∙ ap (λ (k : ℕ). slice_get xs k) same ∙ e)
      | inr f ↦ absurd (let s : None ≡ Some i = rw f at at in cc)
    ]

pub place_missing : {X : Type 0} (p : X → Bool) (xs : List X) → position p xs ≡ None → None ≡ find p xs
place_missing p xs at =
    elim (cases_Bool (nat_lt (position_or_len p xs) (length xs))) [
      | inl t ↦ absurd (let s : Some (position_or_len p xs) ≡ None = rw t at at in cc)
      | inr f ↦ sym (find_at_position p xs ∙ slice_get_past xs (position_or_len p xs) (grind (arith, nat_tests)))
    ]

-- what a search by halves finds
module _ {K X : Type 0} {R : K → K → Ordering} (o : IsTotalOrder R) (f : X → K) (p : X → Bool) (z : K)
    (is : (y : X) → p y ≡ is_eq (R (f y) z)) where
  pub find_place : (xs : List X) (i : ℕ) (x : X) → i < length xs → IsStrictlySortedBy R (map f xs)
      → HoldsAt (λ y. R (f y) z ≡ Equal) xs i → x ≡ get_or xs i x → Some x ≡ find p xs
  find_place xs i x lt up ties e =
      place_found p xs i x (sym (place_at o f p z is xs i x lt up ties)) (slice_get_read xs (length xs) i x refl lt e)

  pub find_gap : (xs : List X) (i : ℕ) (d : X)
      → IsPartitionPoint (λ y. R (f y) z ≡ Less) (λ y. R (f y) z ≡ Greater) xs i → None ≡ find p xs
  find_gap xs i d h = place_missing p xs (sym (place_gap o f p z is xs i d h))

-- places in a list of images
prefix_map : {X Y : Type 0} (p : Y → Bool) (f : X → Y) (xs : List X)
    → prefix_len p (map f xs) ≡ prefix_len (λ x. p (f x)) xs
prefix_map p f [] = refl
prefix_map p f (x ∷ xs) = rw (prefix_map p f xs) refl

pub position_map : {X Y : Type 0} (p : Y → Bool) (f : X → Y) (xs : List X)
    → position p (map f xs) ≡ position (λ x. p (f x)) xs
position_map p f xs = rw (prefix_map (λ y. not (p y)) f xs, length-map xs f) refl
