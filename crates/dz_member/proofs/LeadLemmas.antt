-- The first octets of sort keys decide, unless they tie.
use Rattle.std.proofs.Common.{◌≡◌, ℕ, zero, suc, List, [], ◌∷◌, drop, refl, sym}
use Rattle.std.proofs.Common.{◌∙◌, ap}
use Rattle.std.specs.Ordering.{nat_cmp, ordering_then, ordering_reverse}
use Rattle.std.specs.Cmp.{nat_cmp_total}
use Rattle.std.specs.Cmp.Lexicographic.{slice_cmp, lists_total}
use Rattle.std.specs.declared.cmp.Ordering.{Ordering}
use Rattle.std.specs.declared.cmp.Ordering.TheVariants.{Less, Equal, Greater}
use Rattle.dz_name.specs.Name.{canonical_order}
use Rattle.dz_index.specs.SortKey.{key_of}
use Rattle.dz_index.specs.Lead.{lead_of}
use Rattle.dz_index.proofs.KeyLemmas.{key_order}
use Rattle.dz_index.proofs.LeadLemmas.{not_less, none_less, lead_less}

-- after octets that tie, the next ones decide
then_tied : (o p q : Ordering) → ordering_then o p ≡ Equal → (p ≡ Equal → q ≡ Less) → ordering_then o q ≡ Less
then_tied Less p q e f = absurd (cc)
then_tied Equal p q e f = f e
then_tied Greater p q e f = absurd (cc)

next_less : (n m : ℕ) (xs ys : List ℕ) → slice_cmp nat_cmp (lead_of n xs) (lead_of n ys) ≡ Equal
    → slice_cmp nat_cmp (lead_of m (drop n xs)) (lead_of m (drop n ys)) ≡ Less → slice_cmp nat_cmp xs ys ≡ Less
unfolding lead_of
next_less zero m xs ys e h = lead_less m xs ys h
next_less (suc n) m [] [] e h = lead_less m [] [] h
next_less (suc n) m [] (y ∷ ys) e h = refl
next_less (suc n) m (x ∷ xs) [] e h = absurd (not_less _ (none_less m (drop n xs)) h)
next_less (suc n) m (x ∷ xs) (y ∷ ys) e h = then_tied (nat_cmp x y) _ _ e (λ t. next_less n m xs ys t h)

-- where octets of two keys differ, they decide as the names do
turned : (xs ys : List ℕ) (o : Ordering) → slice_cmp nat_cmp xs ys ≡ o → slice_cmp nat_cmp ys xs ≡ ordering_reverse o
turned xs ys o h = (lists_total nat_cmp_total).antisymm ys xs ∙ ap ordering_reverse h

decided : (a b : List (List ℕ)) (x y : List ℕ) (o : Ordering)
    → (slice_cmp nat_cmp x y ≡ Less → slice_cmp nat_cmp (key_of a) (key_of b) ≡ Less)
    → (slice_cmp nat_cmp y x ≡ Less → slice_cmp nat_cmp (key_of b) (key_of a) ≡ Less)
    → o ≡ slice_cmp nat_cmp x y → ¬ (o ≡ Equal) → o ≡ canonical_order a b
decided a b x y o up down e apart = go o refl
  where
    go : (r : Ordering) → o ≡ r → o ≡ canonical_order a b
    go Less h = h ∙ sym (sym (key_order a b) ∙ up (sym e ∙ h))
    go Equal h = absurd (apart h)
    go Greater h =
        h ∙ sym (sym (key_order a b) ∙ turned (key_of b) (key_of a) Less (down (turned x y Greater (sym e ∙ h))))

abbrev first_of : List (List ℕ) → List ℕ
first_of n = lead_of 16 (key_of n)

abbrev second_of : List (List ℕ) → List ℕ
second_of n = lead_of 16 (drop 16 (key_of n))

pub first_tied : (a b p q : List (List ℕ)) (x y : List ℕ) (o : Ordering) → p ≡ a → q ≡ b
    → x ≡ lead_of 16 (key_of p) → y ≡ lead_of 16 (key_of q) → o ≡ slice_cmp nat_cmp x y → o ≡ Equal
    → slice_cmp nat_cmp (lead_of 16 (key_of a)) (lead_of 16 (key_of b)) ≡ Equal
first_tied a b p q x y o is_a is_b lead_p lead_q e tied =
    ap (λ l. slice_cmp nat_cmp l (first_of b)) (sym (lead_p ∙ ap first_of is_a))
    ∙ (ap (slice_cmp nat_cmp x) (sym (lead_q ∙ ap first_of is_b)) ∙ (sym e ∙ tied))

pub first_decides : (a b p q : List (List ℕ)) (x y : List ℕ) (o : Ordering) → p ≡ a → q ≡ b → x ≡ lead_of 16 (key_of p)
    → y ≡ lead_of 16 (key_of q) → o ≡ slice_cmp nat_cmp x y → ¬ (o ≡ Equal) → o ≡ canonical_order a b
first_decides a b p q x y o is_a is_b lead_p lead_q e apart =
    decided a b (first_of a) (first_of b) o (lead_less 16 (key_of a) (key_of b)) (lead_less 16 (key_of b) (key_of a))
    (e ∙ (ap (λ l. slice_cmp nat_cmp l y) (lead_p ∙ ap first_of is_a)
    ∙ ap (slice_cmp nat_cmp (first_of a)) (lead_q ∙ ap first_of is_b))) apart

pub second_decides : (a b p q : List (List ℕ)) (x y : List ℕ) (o : Ordering) → p ≡ a → q ≡ b
    → x ≡ lead_of 16 (drop 16 (key_of p)) → y ≡ lead_of 16 (drop 16 (key_of q))
    → slice_cmp nat_cmp (lead_of 16 (key_of a)) (lead_of 16 (key_of b)) ≡ Equal → o ≡ slice_cmp nat_cmp x y
    → ¬ (o ≡ Equal) → o ≡ canonical_order a b
second_decides a b p q x y o is_a is_b lead_p lead_q tied e apart =
    decided a b (second_of a) (second_of b) o (next_less 16 16 (key_of a) (key_of b) tied)
    (next_less 16 16 (key_of b) (key_of a) (turned (first_of a) (first_of b) Equal tied))
    (e ∙ (ap (λ l. slice_cmp nat_cmp l y) (lead_p ∙ ap second_of is_a)
    ∙ ap (slice_cmp nat_cmp (second_of a)) (lead_q ∙ ap second_of is_b))) apart
