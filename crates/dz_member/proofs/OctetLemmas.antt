-- Octets as one number, the first octet the greatest: numbers of equally many octets compare as the octets do.
use Rattle.std.proofs.Common.{◌≡◌, ℕ, suc, ◌+◌, ◌*◌, ◌<◌, List, [], ◌∷◌, length, get_or, refl, sym, ◌∙◌, ap, arith}
use Rattle.std.proofs.Common.{inl, inr}
use Rattle.std.specs.Cmp.{nat_cmp_is}
use Rattle.std.specs.Cmp.Lexicographic.{slice_cmp}
use Rattle.std.specs.Int.{w128, from_be_bytes}
use Rattle.std.specs.Ordering.{nat_cmp, ordering_then}
use Rattle.std.specs.declared.cmp.Ordering.TheVariants.{Less, Equal, Greater}
use Rattle.std.proofs.lemmas.Bool.{cases_order}

abbrev AreOctets : List ℕ → Type 0
AreOctets xs = (i : ℕ) → get_or xs i 0 < 256

-- the number that octets spell after another one
abbrev number : ℕ → List ℕ → ℕ
number n [] = n
number n (x ∷ xs) = number (n * 256 + x) xs

rises : (a b : ℕ) (xs ys : List ℕ) → length xs ≡ length ys → AreOctets xs → a < b → number a xs < number b ys
rises a b [] [] e h l = l
rises a b [] (y ∷ ys) e h l = absurd (omega (arith, e))
rises a b (x ∷ xs) [] e h l = absurd (omega (arith, e))
rises a b (x ∷ xs) (y ∷ ys) e h l =
    let small : x < 256 = h 0 in
    rises (a * 256 + x) (b * 256 + y) xs ys (omega (arith, e)) (λ i. h (suc i)) (omega (arith, small, l))

in_order : (a : ℕ) (xs ys : List ℕ) → length xs ≡ length ys → AreOctets xs → AreOctets ys
    → nat_cmp (number a xs) (number a ys) ≡ slice_cmp nat_cmp xs ys
in_order a [] [] e g h = sym (nat_cmp_is a a Equal refl)
in_order a [] (y ∷ ys) e g h = absurd (omega (arith, e))
in_order a (x ∷ xs) [] e g h = absurd (omega (arith, e))
in_order a (x ∷ xs) (y ∷ ys) e g h = elim (cases_order x y) [
  | inl same ↦
      rw same (rw (← nat_cmp_is y y Equal refl)
      (in_order (a * 256 + y) xs ys (omega (arith, e)) (λ i. g (suc i)) (λ i. h (suc i))))
  | inr apart ↦ elim apart [
    | inl below ↦
        let low = rises (a * 256 + x) (a * 256 + y) xs ys (omega (arith, e)) (λ i. g (suc i)) (omega (arith, below)) in
        sym (nat_cmp_is (number (a * 256 + x) xs) (number (a * 256 + y) ys) Less low)
        ∙ ap (λ o. ordering_then o (slice_cmp nat_cmp xs ys)) (nat_cmp_is x y Less below)
    | inr above ↦
        let low = rises (a * 256 + y) (a * 256 + x) ys xs (omega (arith, e)) (λ i. h (suc i)) (omega (arith, above)) in
        sym (nat_cmp_is (number (a * 256 + x) xs) (number (a * 256 + y) ys) Greater low)
        ∙ ap (λ o. ordering_then o (slice_cmp nat_cmp xs ys)) (nat_cmp_is x y Greater above)
  ]
]

-- of sixteen octets
spelt : (xs : List ℕ) → length xs ≡ 16 → from_be_bytes w128 xs ≡ number 0 xs
spelt (a ∷ b ∷ c ∷ d ∷ e ∷ f ∷ g ∷ h ∷ i ∷ j ∷ k ∷ l ∷ m ∷ n ∷ o ∷ p ∷ []) is = omega arith
spelt xs is = absurd (omega (arith, is))

pub numbers_in_order : (xs ys : List ℕ) → length xs ≡ 16 → length ys ≡ 16 → AreOctets xs → AreOctets ys
    → nat_cmp (from_be_bytes w128 xs) (from_be_bytes w128 ys) ≡ slice_cmp nat_cmp xs ys
numbers_in_order xs ys m n g h = rw (spelt xs m, spelt ys n) (in_order 0 xs ys (m ∙ sym n) g h)
