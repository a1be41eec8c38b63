-- What a binary search in records that rise tells.
use Rattle.std.proofs.Common.{◌≡◌, ℕ, zero, suc, ◌+◌, ◌<◌, false, List, [], ◌∷◌, length, get_or, refl, ◌∙◌, ap, is_lt}
use Rattle.std.proofs.Common.{is_eq, Ordering, Less, Equal, Greater, Result, Ok, Err, inl, inr, arith}
use Rattle.std.specs.List.{AllByRecursion, list_any}
use Rattle.std.specs.List.Sorted.{IsSearchInRange, IsBinarySearchResult, IsSortedBy}
use Rattle.std.specs.Ordering.{ordering_reverse}
use Rattle.std.specs.Cmp.{IsTotalOrder}
use Rattle.std.proofs.lemmas.List.Sorted.{searchable_from_sorted}
use Rattle.std.proofs.lemmas.Bool.{cases_lt}
use Rattle.dz_zone.specs.inner.Overlay.{Rises}
use Rattle.dz_zone.specs.inner.Revising.{FindsAt}

module _ {X : Type 0} (R : X → X → Ordering) (o : IsTotalOrder R) where
  below_at : (k : X) (xs : List X) → AllByRecursion (λ y. R k y ≡ Less) xs → (j : ℕ) (d : X) → j < length xs
      → R k (get_or xs j d) ≡ Less
  below_at k [] h j d l = absurd (omega arith)
  below_at k (x ∷ xs) h zero d l = h.0
  below_at k (x ∷ xs) h (suc j) d l = below_at k xs h.1 j d (omega arith)

  pub rises_at : (xs : List X) → Rises R xs → (i j : ℕ) (d : X) → i < j → j < length xs
      → R (get_or xs i d) (get_or xs j d) ≡ Less
  rises_at [] h i j d l m = absurd (omega arith)
  rises_at (x ∷ xs) h i zero d l m = absurd (omega arith)
  rises_at (x ∷ xs) h zero (suc j) d l m = below_at x xs h.0 j d (omega arith)
  rises_at (x ∷ xs) h (suc i) (suc j) d l m = rises_at xs h.1 i j d (omega arith) (omega arith)

  sorted_base : (xs : List X) → Rises R xs → IsSortedBy (λ a b. is_lt (R a b)) xs
  sorted_base xs h k d low high =
      ap is_lt (o.antisymm _ _ ∙ ap ordering_reverse (rises_at xs h k (k + 1) d (omega arith) high))

  apart_from : (a b : X) (v : Ordering) → R a b ≡ v → is_eq v ≡ false → is_eq (R b a) ≡ false
  apart_from a b Less e f = ap is_eq (o.antisymm b a ∙ ap ordering_reverse e)
  apart_from a b Equal e f = absurd (cc)
  apart_from a b Greater e f = ap is_eq (o.antisymm b a ∙ ap ordering_reverse e)

  none_at : (r : X) (xs : List X) → ((j : ℕ) (d : X) → j < length xs → is_eq (R r (get_or xs j d)) ≡ false)
      → list_any (λ s. is_eq (R r s)) xs ≡ false
  none_at r [] h = refl
  none_at r (x ∷ xs) h =
      let f : is_eq (R r x) ≡ false = h 0 x (omega arith) in
      rw f (none_at r xs (λ j d l. h (suc j) d (omega arith)))

  pub searched : (xs : List X) (r : X) (result : Result ℕ ℕ) → Rises R xs → IsSearchInRange result (length xs)
      → IsBinarySearchResult (λ k. R k r) xs result → FindsAt R xs r result
  searched xs r (Ok at) h l f = (l, λ d. ap is_eq (o.antisymm r (get_or xs at d) ∙ ap ordering_reverse (f d)))
  searched xs r (Err at) h l f =
      let parts = f (searchable_from_sorted o (λ k. k) xs r (sorted_base xs h)) in
      none_at r xs (λ j d m.
      elim (cases_lt j at) [
        | inl b ↦ apart_from (get_or xs j d) r Less (parts.0 j d (omega arith) b) refl
        | inr b ↦ apart_from (get_or xs j d) r Greater (parts.1 j d b m) refl
      ])
