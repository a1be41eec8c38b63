-- The first octets of sort keys decide, unless they tie.
use Rattle.std.proofs.Common.{◌≡◌, ◌≢◌, false, ℕ, zero, suc, ◌<◌, List, [], ◌∷◌, ◌++◌, length, take, drop, min, refl}
use Rattle.std.proofs.Common.{sym, ◌∙◌, ap, arith}
use Rattle.std.specs.Ordering.{nat_cmp, ordering_then, ordering_reverse, is_lt}
use Rattle.std.specs.Cmp.{nat_cmp_total}
use Rattle.std.specs.Cmp.Lexicographic.{slice_cmp, lists_total}
use Rattle.std.specs.declared.cmp.Ordering.{Ordering}
use Rattle.std.specs.declared.cmp.Ordering.TheVariants.{Less, Equal, Greater}
use Rattle.std.proofs.lemmas.Bool.{false≢true}
use Rattle.std.proofs.lemmas.Bool.Decides.{nat_tests}
use Rattle.dz_name.specs.Name.{canonical_order}
use Rattle.dz_index.specs.SortKey.{key_of}
use Rattle.dz_index.specs.Lead.{lead_of}
use Rattle.dz_index.proofs.KeyLemmas.{key_order}

nat_more : (a b : ℕ) → b < a → nat_cmp a b ≡ Greater
nat_more a b h = grind (arith, nat_tests)

pub not_less : (o : Ordering) → is_lt o ≡ false → o ≡ Less → ⊥
not_less o f e = false≢true (sym f ∙ ap is_lt e)

none_tied : (n : ℕ) → is_lt (slice_cmp nat_cmp (lead_of n []) (lead_of n [])) ≡ false
unfolding lead_of
none_tied zero = refl
none_tied (suc n) = none_tied n

pub none_less : (n : ℕ) (xs : List ℕ) → is_lt (slice_cmp nat_cmp (lead_of n xs) (lead_of n [])) ≡ false
unfolding lead_of
none_less zero xs = refl
none_less (suc n) [] = none_tied n
none_less (suc n) (zero ∷ xs) = none_less n xs
none_less (suc n) (suc x ∷ xs) = rw (nat_more (suc x) 0 (omega arith)) refl

then_less : (o p q : Ordering) → (p ≡ Less → q ≡ Less) → ordering_then o p ≡ Less → ordering_then o q ≡ Less
then_less Less p q f h = refl
then_less Equal p q f h = f h
then_less Greater p q f h = h

pub lead_less : (n : ℕ) (xs ys : List ℕ) → slice_cmp nat_cmp (lead_of n xs) (lead_of n ys) ≡ Less
    → slice_cmp nat_cmp xs ys ≡ Less
unfolding lead_of
lead_less zero xs ys h = absurd (not_less Equal refl h)
lead_less (suc n) xs [] h = absurd (not_less _ (none_less (suc n) xs) h)
lead_less (suc n) [] (y ∷ ys) h = refl
lead_less (suc n) (x ∷ xs) (y ∷ ys) h = then_less (nat_cmp x y) _ _ (lead_less n xs ys) h

-- where the first octets of two keys differ, they decide as the names do
lead_decides_less : (a b : List (List ℕ)) → slice_cmp nat_cmp (lead_of 16 (key_of a)) (lead_of 16 (key_of b)) ≡ Less
    → canonical_order a b ≡ Less
lead_decides_less a b h = sym (key_order a b) ∙ lead_less 16 (key_of a) (key_of b) h

lead_decides_greater : (a b : List (List ℕ))
    → slice_cmp nat_cmp (lead_of 16 (key_of a)) (lead_of 16 (key_of b)) ≡ Greater → canonical_order a b ≡ Greater
lead_decides_greater a b h =
    let less = lead_less 16 (key_of b) (key_of a) ((lists_total nat_cmp_total).antisymm (lead_of 16 (key_of b))
    (lead_of 16 (key_of a)) ∙ ap ordering_reverse h) in
    sym (key_order a b) ∙ ((lists_total nat_cmp_total).antisymm (key_of a) (key_of b) ∙ ap ordering_reverse less)

pub lead_decides : (a b : List (List ℕ)) → slice_cmp nat_cmp (lead_of 16 (key_of a)) (lead_of 16 (key_of b)) ≢ Equal
    → canonical_order a b ≡ slice_cmp nat_cmp (lead_of 16 (key_of a)) (lead_of 16 (key_of b))
lead_decides a b apart = go (slice_cmp nat_cmp (lead_of 16 (key_of a)) (lead_of 16 (key_of b))) refl
  where
    go : (o : Ordering) → slice_cmp nat_cmp (lead_of 16 (key_of a)) (lead_of 16 (key_of b)) ≡ o
        → canonical_order a b ≡ slice_cmp nat_cmp (lead_of 16 (key_of a)) (lead_of 16 (key_of b))
    go Less h = lead_decides_less a b h ∙ sym h
    go Equal h = absurd (apart h)
    go Greater h = lead_decides_greater a b h ∙ sym h

-- the first octets, and zeros where there are fewer
lead_made : (n k : ℕ) (xs : List ℕ) → k ≡ min (length xs) n → take k xs ++ drop k (lead_of n []) ≡ lead_of n xs
unfolding lead_of
lead_made zero zero xs e = refl
lead_made zero (suc k) xs e = absurd (omega arith)
lead_made (suc n) zero [] e = refl
lead_made (suc n) (suc k) [] e = absurd (omega arith)
lead_made (suc n) zero (x ∷ xs) e = absurd (omega arith)
lead_made (suc n) (suc k) (x ∷ xs) e = ap (λ l. x ∷ l) (lead_made n k xs (omega arith))

pub lead_is : (xs part : List ℕ) (k : ℕ) → k ≡ min (length xs) 16 → part ≡ take k xs
    → part ++ drop k (0 ∷ 0 ∷ 0 ∷ 0 ∷ 0 ∷ 0 ∷ 0 ∷ 0 ∷ 0 ∷ 0 ∷ 0 ∷ 0 ∷ 0 ∷ 0 ∷ 0 ∷ 0 ∷ []) ≡ lead_of 16 xs
unfolding lead_of
lead_is xs part k e p = ap (λ l. l ++ drop k (0 ∷ 0 ∷ 0 ∷ 0 ∷ 0 ∷ 0 ∷ 0 ∷ 0 ∷ 0 ∷ 0 ∷ 0 ∷ 0 ∷ 0 ∷ 0 ∷ 0 ∷ 0 ∷ [])) p
    ∙ lead_made 16 k xs e
