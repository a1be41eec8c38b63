-- Lists that begin with others.
use Rattle.std.proofs.Common.{◌≡◌, ℕ, zero, suc, ◌≤◌, List, [], ◌∷◌, ◌++◌, length, Some, slice_get, refl, sym, ap, ◌∙◌}
use Rattle.std.proofs.Common.{append_assoc, length-append, arith}
use Rattle.std.proofs.lemmas.List.{append-nil}
use mathlib.Core.List.{IsPrefix}

module _ {A : Type 0} where
  pub prefix_self : (xs : List A) → IsPrefix xs xs
  prefix_self xs = ([], append-nil xs)

  pub prefix_more : (xs more : List A) → IsPrefix xs (xs ++ more)
  prefix_more xs more = (more, refl)

  pub prefix_trans : (xs ys zs : List A) → IsPrefix xs ys → IsPrefix ys zs → IsPrefix xs zs
  prefix_trans xs ys zs p q = (p.0 ++ q.0, sym (append_assoc xs p.0 q.0) ∙ (ap (λ front. front ++ q.0) p.1 ∙ q.1))

  pub prefix_length : (xs ys : List A) → IsPrefix xs ys → length xs ≤ length ys
  prefix_length xs ys p = omega (arith, length-append xs p.0, ap length p.1)

  -- one element off the front of both
  tails : (x y : A) (xs ys : List A) → IsPrefix (x ∷ xs) (y ∷ ys) → (x ≡ y) × IsPrefix xs ys
  tails x y xs ys p = (cc (p.1), (p.0, cc (p.1)))

  -- of two that begin one list, the shorter begins the other
  pub prefix_shorter : (xs ys whole : List A) → IsPrefix xs whole → IsPrefix ys whole → length xs ≤ length ys
      → IsPrefix xs ys
  prefix_shorter [] ys whole p q less = (ys, refl)
  prefix_shorter (x ∷ xs) [] whole p q less = absurd (omega arith)
  prefix_shorter (x ∷ xs) (y ∷ ys) [] p q less = absurd (cc (p.1))
  prefix_shorter (x ∷ xs) (y ∷ ys) (w ∷ whole) p q less =
      let front = tails x w xs whole p in
      let other = tails y w ys whole q in
      let rest = prefix_shorter xs ys whole front.1 other.1 (omega arith) in
      (rest.0, cc (front.0, other.0, rest.1))

  -- one that isn't shorter than the list is the list
  pub prefix_whole : (xs ys : List A) → IsPrefix xs ys → length ys ≤ length xs → xs ≡ ys
  prefix_whole [] [] p less = refl
  prefix_whole [] (y ∷ ys) p less = absurd (omega arith)
  prefix_whole (x ∷ xs) [] p less = absurd (cc (p.1))
  prefix_whole (x ∷ xs) (y ∷ ys) p less =
      let t = tails x y xs ys p in
      cc (t.0, prefix_whole xs ys t.1 (omega arith))

  -- an element keeps its place
  pub prefix_get : (xs ys : List A) (place : ℕ) (x : A) → IsPrefix xs ys → slice_get xs place ≡ Some x
      → slice_get ys place ≡ Some x
  prefix_get [] ys place x p there = absurd cc
  prefix_get (z ∷ xs) [] place x p there = absurd (cc (p.1))
  prefix_get (z ∷ xs) (y ∷ ys) zero x p there = cc (p.1, there)
  prefix_get (z ∷ xs) (y ∷ ys) (suc place) x p there = prefix_get xs ys place x (tails z y xs ys p).1 there
