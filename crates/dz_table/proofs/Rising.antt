-- Lists that rise by a key, and an element put among them.
use Rattle.std.proofs.Common.{◌≡◌, List, [], ◌∷◌, ◌++◌, refl}
use Rattle.std.specs.Prelude.{filter}
use Rattle.std.specs.List.{AllByRecursion}
use Rattle.std.specs.List.Sorted.{IsStrictlySortedBy}
use Rattle.std.specs.Ordering.{on, is_lt}
use Rattle.std.specs.declared.cmp.Ordering.{Ordering}
use Rattle.std.specs.declared.cmp.Ordering.TheVariants.{Less, Equal, Greater}
use Rattle.std.specs.Cmp.{IsTotalOrder}
use Rattle.std.proofs.Common.{true}
use Rattle.std.proofs.lemmas.List.Kept.{IsStrictlySortedBy-filter}
use Rattle.std.proofs.lemmas.List.Elements.{filter_passes, recursion_from_All, All-weaker}

less_from : (o : Ordering) → is_lt o ≡ true → o ≡ Less
less_from Less h = refl
less_from Equal h = absurd (cc)
less_from Greater h = absurd (cc)

all_append : {X : Type 0} (P : X → Type 0) (xs ys : List X) → AllByRecursion P xs → AllByRecursion P ys
    → AllByRecursion P (xs ++ ys)
all_append P [] ys h k = k
all_append P (x ∷ xs) ys h k = (h.0, all_append P xs ys h.1 k)

pub all_weaker : {X : Type 0} (P Q : X → Type 0) → ((x : X) → P x → Q x) → (xs : List X) → AllByRecursion P xs
    → AllByRecursion Q xs
all_weaker P Q f [] h = tt
all_weaker P Q f (x ∷ xs) h = (f x h.0, all_weaker P Q f xs h.1)

module _ {X K : Type 0} (f : X → K) {R : K → K → Ordering} (o : IsTotalOrder R) where
  joined : (front : List X) (x : X) (back : List X) → IsStrictlySortedBy (on f R) front
      → AllByRecursion (λ s. R (f s) (f x) ≡ Less) front
      → IsStrictlySortedBy (on f R) back → AllByRecursion (λ s. R (f x) (f s) ≡ Less) back
      → IsStrictlySortedBy (on f R) (front ++ x ∷ back)
  unfolding IsStrictlySortedBy
  joined [] x back a b c d = (d, c)
  joined (y ∷ ys) x back a b c d = (
    all_append (λ s. R (f y) (f s) ≡ Less) ys (x ∷ back) a.0 (
      b.0,
      all_weaker (λ s. R (f x) (f s) ≡ Less)
          (λ s. R (f y) (f s) ≡ Less) (λ s e. o.trans (f y) (f x) (f s) b.0 e) back d,
    ),
    joined ys x back a.1 b.1 c d,
  )

  passed : (g : X → Ordering) (xs : List X) → AllByRecursion (λ s. g s ≡ Less) (filter (λ s. is_lt (g s)) xs)
  passed g xs =
      recursion_from_All (λ s. g s ≡ Less) (filter (λ s. is_lt (g s)) xs)
      (All-weaker (λ s. is_lt (g s) ≡ true) (λ s. g s ≡ Less) (λ s t. less_from (g s) t) _
      (filter_passes (λ s. is_lt (g s)) xs))

  pub rises_put : (x : X) (xs : List X) → IsStrictlySortedBy (on f R) xs → IsStrictlySortedBy (on f R)
      (filter (λ s. is_lt (R (f s) (f x))) xs ++ x ∷ filter (λ s. is_lt (R (f x) (f s))) xs)
  rises_put x xs up =
      joined (filter (λ s. is_lt (R (f s) (f x))) xs) x (filter (λ s. is_lt (R (f x) (f s))) xs)
      (IsStrictlySortedBy-filter (on f R) (λ s. is_lt (R (f s) (f x))) xs up) (passed (λ s. R (f s) (f x)) xs)
      (IsStrictlySortedBy-filter (on f R) (λ s. is_lt (R (f x) (f s))) xs up) (passed (λ s. R (f x) (f s)) xs)
