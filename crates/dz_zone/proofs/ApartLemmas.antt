-- Two ordered lists: what each has that the other hasn't, by one pass over both.
use Rattle.std.proofs.Common.{◌≡◌, ℕ, zero, suc, ◌+◌, ◌≤◌, Bool, false, not, List, [], ◌∷◌, length, refl, sym}
use Rattle.std.proofs.Common.{◌∙◌, ap, arith, is_eq, Ordering, Less, Equal, Greater}
use Rattle.std.specs.Prelude.{filter}
use Rattle.std.specs.List.{AllByRecursion, list_any}
use Rattle.std.specs.List.Sorted.{IsStrictlySortedBy}
use Rattle.std.specs.Ordering.{ordering_reverse}
use Rattle.std.specs.Cmp.{IsTotalOrder, tied_back}
use Rattle.std.proofs.lemmas.Map.Keys.{sorted_head, sorted_tail}
use Rattle.dz_zone.proofs.Ordered.{each_more}

-- the elements that compare equal to none of the others
abbrev pub lacks : {X : Type 0} → (X → X → Ordering) → List X → List X → List X
lacks R others xs = filter (λ x. not (list_any (λ y. is_eq (R x y)) others)) xs

module _ {X : Type 0} (R : X → X → Ordering) (o : IsTotalOrder R) where
  less_back : (x y : X) → R x y ≡ Less → R y x ≡ Greater
  less_back x y e = o.antisymm y x ∙ ap ordering_reverse e

  pub greater_back : (x y : X) → R x y ≡ Greater → R y x ≡ Less
  greater_back x y e = o.antisymm y x ∙ ap ordering_reverse e

  none_ties : (x : X) (ys : List X) → AllByRecursion (λ y. R x y ≡ Less) ys → list_any (λ y. is_eq (R x y)) ys ≡ false
  none_ties x [] h = refl
  none_ties x (y ∷ ys) h = rw (h.0, none_ties x ys h.1) refl

  -- an element before all others is lacked by them
  pub first_lacked : (x : X) (xs ys : List X) → AllByRecursion (λ y. R x y ≡ Less) ys
      → lacks R ys (x ∷ xs) ≡ x ∷ lacks R ys xs
  first_lacked x xs ys h = rw (none_ties x ys h) refl

  -- and it lacks none of them
  pub first_apart : (x : X) (xs ys : List X) → AllByRecursion (λ y. R x y ≡ Less) ys
      → lacks R (x ∷ xs) ys ≡ lacks R xs ys
  first_apart x xs [] h = refl
  first_apart x xs (y ∷ ys) h = rw (less_back x y h.0, first_apart x xs ys h.1) refl

  -- two first elements that compare equal are lacked by neither
  pub both_first : (x y : X) (xs ys : List X) → R x y ≡ Equal → AllByRecursion (λ z. R x z ≡ Less) xs
      → lacks R (y ∷ ys) (x ∷ xs) ≡ lacks R ys xs
  both_first x y xs ys e h =
      rw e (first_apart y ys xs
      (each_more (λ z. R x z ≡ Less) (λ z. R y z ≡ Less) (λ z l. sym (o.congr x y z e) ∙ l) xs h))

  -- an element before the first of a list that rises is before all of it
  pub before_first : (x y : X) (ys : List X) → R x y ≡ Less → IsStrictlySortedBy R (y ∷ ys)
      → AllByRecursion (λ z. R x z ≡ Less) (y ∷ ys)
  before_first x y ys e up =
      (e, each_more (λ z. R y z ≡ Less) (λ z. R x z ≡ Less) (λ z l. o.trans x y z e l) ys (sorted_head R y ys up))

  -- lists that differ only where a test fails pass it alike
  module _ (same : (x y : X) → R x y ≡ Equal → x ≡ y) (p : X → Bool) where
    all_fail : (xs : List X) → AllByRecursion (λ x. p x ≡ false) (lacks R [] xs) → filter p xs ≡ []
    all_fail [] h = refl
    all_fail (x ∷ xs) h = rw h.0 (all_fail xs h.1)

    pub alike_where : (n : ℕ) (xs ys : List X) → length xs + length ys ≤ n → IsStrictlySortedBy R xs
        → IsStrictlySortedBy R ys → AllByRecursion (λ x. p x ≡ false) (lacks R ys xs)
        → AllByRecursion (λ x. p x ≡ false) (lacks R xs ys) → filter p xs ≡ filter p ys
    alike_where n [] ys few up vp g c = sym (all_fail ys c)
    alike_where n (x ∷ xs) [] few up vp g c = all_fail (x ∷ xs) g
    alike_where zero (x ∷ xs) (y ∷ ys) few up vp g c = absurd (omega arith)
    alike_where (suc n) (x ∷ xs) (y ∷ ys) few up vp g c =
        (elim (R x y) as (λ v. R x y ≡ v → filter p (x ∷ xs) ≡ filter p (y ∷ ys)) [
          | Less ↦ λ e.
              let all = before_first x y ys e vp in
              let gone = rw (first_lacked x xs (y ∷ ys) all) at g in
              let come = rw (first_apart x xs (y ∷ ys) all) at c in
              let rest = alike_where n xs (y ∷ ys) (omega arith) (sorted_tail R x xs up) vp gone.1 come in
              rw gone.0 rest
          | Equal ↦ λ e.
              let gone = rw (both_first x y xs ys e (sorted_head R x xs up)) at g in
              let come = rw (both_first y x ys xs (tied_back o x y e) (sorted_head R y ys vp)) at c in
              let rest = alike_where n xs ys (omega arith) (sorted_tail R x xs up) (sorted_tail R y ys vp) gone come in
              rw (same x y e, rest) refl
          | Greater ↦ λ e.
              let all = before_first y x xs (greater_back x y e) up in
              let come = rw (first_lacked y ys (x ∷ xs) all) at c in
              let gone = rw (first_apart y ys (x ∷ xs) all) at g in
              let rest = alike_where n (x ∷ xs) ys (omega arith) up (sorted_tail R y ys vp) gone come.1 in
              let q : filter p (y ∷ ys) ≡ filter p ys = rw come.0 refl in
              rest ∙ sym q
        ]) refl
