-- A stable sort has one answer: that of insertion.
use Rattle.std.proofs.Common.{◌≡◌, ℕ, zero, suc, add-one, ◌<◌, ◌≤◌, ◌+◌, Bool, true, false, cond, not, ◌&&◌, List, []}
use Rattle.std.proofs.Common.{◌∷◌, length, refl, sym, ◌∙◌, ap, subst, arith}
use Rattle.std.proofs.Math.ListN.{get_or}
use Rattle.std.specs.List.{filter}
use Rattle.std.specs.List.Sorted.{ties, IsSortedBy, IsStableBy}
use Rattle.std.specs.Cmp.{IsStrictWeakOrder}
use Rattle.std.proofs.lemmas.List.Sorted.{sorted_far}
use Rattle.dz_member.specs.Sorting.{insert_by, sorted_by}

-- no element is less than x
abbrev pub NoneBelow : {X : Type 0} → (X → X → Bool) → X → List X → Type 0
NoneBelow lt x [] = Unit {0}
NoneBelow lt x (y ∷ ys) = (lt y x ≡ false) × NoneBelow lt x ys

abbrev pub Rises : {X : Type 0} → (X → X → Bool) → List X → Type 0
Rises lt [] = Unit {0}
Rises lt (x ∷ xs) = NoneBelow lt x xs × Rises lt xs

nil_cons : {X : Type 0} (x : X) (xs : List X) → [] ≡ x ∷ xs → ⊥
nil_cons x xs e = cc

head_same : {X : Type 0} (x y : X) (xs ys : List X) → x ∷ xs ≡ y ∷ ys → x ≡ y
head_same x y xs ys e = cc

tail_same : {X : Type 0} (x y : X) (xs ys : List X) → x ∷ xs ≡ y ∷ ys → xs ≡ ys
tail_same x y xs ys e = cc

module _ {X : Type 0} (lt : X → X → Bool) (o : IsStrictWeakOrder lt) where
  irreflexive : (x : X) → lt x x ≡ false
  irreflexive x =
      elim (lt x x) as (λ b. lt x x ≡ b → lt x x ≡ false) [ true ↦ λ e. o.one_way x x e | false ↦ λ e. e ] refl

  both_false : (a b : Bool) → a ≡ false → b ≡ false → (not a && not b) ≡ true
  both_false a b p q = rw (p, q)

  first_false : (a b : Bool) → (not a && not b) ≡ true → a ≡ false
  first_false true b e = cc
  first_false false b e = refl

  second_false : (a b : Bool) → (not a && not b) ≡ true → b ≡ false
  second_false true b e = cc
  second_false false true e = cc
  second_false false false e = refl

  ties_self : (x : X) → ties lt x x ≡ true
  ties_self x = both_false _ _ (irreflexive x) (irreflexive x)

  -- none of these is below x, and one of them ties with y: then y is not below x
  found_above : (x y z : X) (xs zs : List X) → NoneBelow lt x xs → filter (ties lt y) xs ≡ z ∷ zs → lt y x ≡ false
  found_above x y z [] zs none e = absurd (nil_cons z zs e)
  found_above x y z (w ∷ ws) zs none e =
      elim (ties lt y w) as (λ b. ties lt y w ≡ b → cond b (w ∷ filter (ties lt y) ws) (filter (ties lt y) ws) ≡ z ∷ zs
      → lt y x ≡ false) [
        | true ↦ λ t _. o.chain y w x (first_false _ _ t) none.0
        | false ↦ λ _ e'. found_above x y z ws zs none.1 e'
      ] refl e

  -- of two lists in order with the same ties, the first elements are the same
  not_below : (s t : X) (ss ts : List X) → Rises lt (t ∷ ts)
      → filter (ties lt s) (s ∷ ss) ≡ filter (ties lt s) (t ∷ ts) → lt s t ≡ false
  not_below s t ss ts rises e =
      let e' : s ∷ filter (ties lt s) ss ≡ filter (ties lt s) (t ∷ ts) = rw (ties_self s) at e in
      elim (ties lt s t) as (λ b. ties lt s t ≡ b
      → s ∷ filter (ties lt s) ss ≡ cond b (t ∷ filter (ties lt s) ts) (filter (ties lt s) ts) → lt s t ≡ false) [
        | true ↦ λ p _. first_false _ _ p
        | false ↦ λ _ q. found_above t s s ts (filter (ties lt s) ss) rises.0 (sym q)
      ] refl e'

  pub same_sorted : (ss ts : List X) → Rises lt ss → Rises lt ts
      → ((x : X) → filter (ties lt x) ss ≡ filter (ties lt x) ts) → ss ≡ ts
  same_sorted [] [] a b is = refl
  same_sorted [] (t ∷ ts) a b is = absurd (nil_cons t _ (rw (ties_self t) at (is t)))
  same_sorted (s ∷ ss) [] a b is = absurd (nil_cons s _ (sym (rw (ties_self s) at (is s))))
  same_sorted (s ∷ ss) (t ∷ ts) a b is =
      let tie : ties lt s t ≡ true =
      both_false _ _ (not_below s t ss ts b (is s)) (not_below t s ts ss a (sym (is t))) in
      let heads : s ≡ t =
      head_same s t (filter (ties lt s) ss) (filter (ties lt s) ts) (rw (ties_self s, tie) at (is s)) in
      let rest = same_sorted ss ts a.1 b.1 (λ x.
      elim (ties lt x s) as (λ v. ties lt x s ≡ v → filter (ties lt x) ss ≡ filter (ties lt x) ts) [
        | true ↦ λ p. tail_same s t _ _ (rw (p, subst (λ (w : X). ties lt x w ≡ true) heads p) at (is x))
        | false ↦ λ p. rw (p, subst (λ (w : X). ties lt x w ≡ false) heads p) at (is x)
      ] refl) in
      λ i. heads i ∷ rest i

  -- from the order by places to that by recursion
  pub none_below : (x : X) (xs : List X) → ((i : ℕ) (d : X) → i < length xs → lt (get_or xs i d) x ≡ false)
      → NoneBelow lt x xs
  none_below x [] h = tt
  none_below x (y ∷ ys) h = (h 0 y (omega arith), none_below x ys (λ i d below. h (suc i) d (omega arith)))

  pub rises_from_sorted : (xs : List X) → IsSortedBy lt xs → Rises lt xs
  rises_from_sorted [] up = tt
  rises_from_sorted (x ∷ xs) up =
      let far =
      λ (i j : ℕ) (d : X) (le : i ≤ j) (below : j < length (x ∷ xs)). sorted_far lt o (x ∷ xs) up i j d le below in (
        none_below x xs (λ i d below. far 0 (suc i) d (omega arith) (omega arith)),
        rises_from_sorted xs (λ k d low high. far (suc k) (suc (k + 1)) d (omega arith) (omega arith)),
      )

  none_below_insert : (x y : X) (ys : List X) → lt y x ≡ false → NoneBelow lt x ys → NoneBelow lt x (insert_by lt y ys)
  none_below_insert x y [] le none = (le, tt)
  none_below_insert x y (z ∷ zs) le none =
      elim (lt z y) as (λ b. NoneBelow lt x (cond b (z ∷ insert_by lt y zs) (y ∷ z ∷ zs))) [
        | true ↦ (none.0, none_below_insert x y zs le none.1)
        | false ↦ (le, none)
      ]

  -- what nothing in ys is below, nothing is below from a lower element
  none_below_lower : (x y : X) (ys : List X) → lt y x ≡ false → NoneBelow lt y ys → NoneBelow lt x ys
  none_below_lower x y [] le none = tt
  none_below_lower x y (z ∷ zs) le none = (o.chain z y x none.0 le, none_below_lower x y zs le none.1)

  rises_insert : (x : X) (ys : List X) → Rises lt ys → Rises lt (insert_by lt x ys)
  rises_insert x [] rises = (tt, tt)
  rises_insert x (y ∷ ys) rises =
      elim (lt y x) as (λ b. lt y x ≡ b → Rises lt (cond b (y ∷ insert_by lt x ys) (x ∷ y ∷ ys))) [
        | true ↦ λ e. (none_below_insert y x ys (o.one_way y x e) rises.0, rises_insert x ys rises.1)
        | false ↦ λ e. ((e, none_below_lower x y ys e rises.0), rises)
      ] refl

  -- y is below x: they don't both tie with z
  apart : (x y z : X) → lt y x ≡ true → ties lt z x ≡ true → ties lt z y ≡ false
  apart x y z less tie =
      elim (ties lt z y) as (λ b. ties lt z y ≡ b → ties lt z y ≡ false) [
        | true ↦ λ e. absurd (let h : lt y x ≡ false = o.chain y z x (second_false _ _ e) (first_false _ _ tie) in cc)
        | false ↦ λ e. e
      ] refl

  ties_insert : (z x : X) (ys : List X) → filter (ties lt z) (insert_by lt x ys) ≡ filter (ties lt z) (x ∷ ys)
  ties_insert z x [] = refl
  ties_insert z x (y ∷ ys) =
      elim (lt y x) as (λ b. lt y x ≡ b
      → filter (ties lt z) (cond b (y ∷ insert_by lt x ys) (x ∷ y ∷ ys)) ≡ filter (ties lt z) (x ∷ y ∷ ys)) [
        | true ↦ λ less. elim (ties lt z x) as (λ b. ties lt z x ≡ b
            → filter (ties lt z) (y ∷ insert_by lt x ys) ≡ filter (ties lt z) (x ∷ y ∷ ys)) [
              | true ↦ λ e. rw (apart x y z less e, ties_insert z x ys) refl
              | false ↦ λ e. rw (e, ties_insert z x ys, e) refl
            ] refl
        | false ↦ λ _. refl
      ] refl

  pub rises_sorted_by : (xs : List X) → Rises lt (sorted_by lt xs)
  rises_sorted_by [] = tt
  rises_sorted_by (x ∷ xs) = rises_insert x (sorted_by lt xs) (rises_sorted_by xs)

  pub ties_sorted_by : (z : X) (xs : List X) → filter (ties lt z) (sorted_by lt xs) ≡ filter (ties lt z) xs
  ties_sorted_by z [] = refl
  ties_sorted_by z (x ∷ xs) =
      ties_insert z x (sorted_by lt xs) ∙ ap (λ (l : List X). cond (ties lt z x) (x ∷ l) l) (ties_sorted_by z xs)

  -- what a stable sort leaves
  pub stable_is : (xs ys : List X) → IsSortedBy lt ys → IsStableBy lt xs ys → ys ≡ sorted_by lt xs
  stable_is xs ys up stable = same_sorted ys (sorted_by lt xs) (rises_from_sorted ys up) (rises_sorted_by xs)
      (λ z. stable z ∙ sym (ties_sorted_by z xs))

  pub sorted_from_rises : (xs : List X) → Rises lt xs → IsSortedBy lt xs
  sorted_from_rises [] rises k d low high = absurd (omega arith)
  sorted_from_rises (x ∷ []) rises k d low high = absurd (omega arith)
  sorted_from_rises (x ∷ y ∷ ys) rises zero d low high = rises.0.0
  sorted_from_rises (x ∷ y ∷ ys) rises (suc k) d low high =
      rw (add-one (suc k)) (rw (add-one k) at (sorted_from_rises (y ∷ ys) rises.1 k d (omega arith) (omega arith)))
