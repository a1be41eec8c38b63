-- Octets are compared eight at once, each eight as one number, of which the first octet is the greatest.
use Rattle.std.proofs.Common.{◌≡◌, ◌≢◌, ℕ, zero, suc, ◌+◌, ◌*◌, ◌<◌, ◌≤◌, List, [], ◌∷◌, length, take, drop, get_or}
use Rattle.std.proofs.Common.{refl, sym, ◌∙◌, ap, arith, inl, inr}
use Rattle.std.specs.Cmp.{nat_cmp_is}
use Rattle.std.specs.Cmp.Lexicographic.{slice_cmp}
use Rattle.std.specs.Int.{w64, from_be_bytes}
use Rattle.std.specs.Ordering.{nat_cmp, ordering_then}
use Rattle.std.specs.declared.cmp.Ordering.{Ordering}
use Rattle.std.specs.declared.cmp.Ordering.TheVariants.{Less, Equal, Greater}
use Rattle.std.proofs.lemmas.Bool.{cases_order}
use Rattle.dz_index.proofs.KeyLemmas.{then_then}

abbrev AreOctets : List ℕ → Type 0
AreOctets xs = (i : ℕ) → get_or xs i 0 < 256

-- the number that octets spell after another one
abbrev number : ℕ → List ℕ → ℕ
number n [] = n
number n (x ∷ xs) = number (n * 256 + x) xs

rises : (a b : ℕ) (xs ys : List ℕ) → length xs ≡ length ys → AreOctets xs → a < b → number a xs < number b ys
rises a b [] [] e h l = l
rises a b [] (y ∷ ys) e h l = absurd (omega (arith, e))
rises a b (x ∷ xs) [] e h l = absurd (omega (arith, e))
rises a b (x ∷ xs) (y ∷ ys) e h l =
    let small : x < 256 = h 0 in
    rises (a * 256 + x) (b * 256 + y) xs ys (omega (arith, e)) (λ i. h (suc i)) (omega (arith, small, l))

in_order : (a : ℕ) (xs ys : List ℕ) → length xs ≡ length ys → AreOctets xs → AreOctets ys
    → nat_cmp (number a xs) (number a ys) ≡ slice_cmp nat_cmp xs ys
in_order a [] [] e g h = sym (nat_cmp_is a a Equal refl)
in_order a [] (y ∷ ys) e g h = absurd (omega (arith, e))
in_order a (x ∷ xs) [] e g h = absurd (omega (arith, e))
in_order a (x ∷ xs) (y ∷ ys) e g h = elim (cases_order x y) [
  | inl same ↦
      rw same (rw (← nat_cmp_is y y Equal refl)
      (in_order (a * 256 + y) xs ys (omega (arith, e)) (λ i. g (suc i)) (λ i. h (suc i))))
  | inr apart ↦ elim apart [
    | inl below ↦
        let low = rises (a * 256 + x) (a * 256 + y) xs ys (omega (arith, e)) (λ i. g (suc i)) (omega (arith, below)) in
        sym (nat_cmp_is (number (a * 256 + x) xs) (number (a * 256 + y) ys) Less low)
        ∙ ap (λ o. ordering_then o (slice_cmp nat_cmp xs ys)) (nat_cmp_is x y Less below)
    | inr above ↦
        let low = rises (a * 256 + y) (a * 256 + x) ys xs (omega (arith, e)) (λ i. h (suc i)) (omega (arith, above)) in
        sym (nat_cmp_is (number (a * 256 + x) xs) (number (a * 256 + y) ys) Greater low)
        ∙ ap (λ o. ordering_then o (slice_cmp nat_cmp xs ys)) (nat_cmp_is x y Greater above)
  ]
]

pub first_octets : (n : ℕ) (xs : List ℕ) → AreOctets xs → AreOctets (take n xs)
first_octets zero xs h i = omega arith
first_octets (suc n) [] h i = omega arith
first_octets (suc n) (x ∷ xs) h zero = h 0
first_octets (suc n) (x ∷ xs) h (suc i) = first_octets n xs (λ j. h (suc j)) i

-- of eight octets
spelt : (xs : List ℕ) → length xs ≡ 8 → from_be_bytes w64 xs ≡ number 0 xs
spelt (a ∷ b ∷ c ∷ d ∷ e ∷ f ∷ g ∷ h ∷ []) is = omega arith
spelt xs is = absurd (omega (arith, is))

pub groups_in_order : (xs ys : List ℕ) → length xs ≡ 8 → length ys ≡ 8 → AreOctets xs → AreOctets ys
    → nat_cmp (from_be_bytes w64 xs) (from_be_bytes w64 ys) ≡ slice_cmp nat_cmp xs ys
groups_in_order xs ys m n g h = rw (spelt xs m, spelt ys n) (in_order 0 xs ys (m ∙ sym n) g h)

-- as many first octets of either side, and then those after them
in_two : (n : ℕ) (xs ys : List ℕ) → n ≤ length xs → n ≤ length ys
    → slice_cmp nat_cmp xs ys
    ≡ ordering_then (slice_cmp nat_cmp (take n xs) (take n ys)) (slice_cmp nat_cmp (drop n xs) (drop n ys))
in_two zero xs ys g h = refl
in_two (suc n) [] ys g h = absurd (omega arith)
in_two (suc n) (x ∷ xs) [] g h = absurd (omega arith)
in_two (suc n) (x ∷ xs) (y ∷ ys) g h =
    ap (ordering_then (nat_cmp x y)) (in_two n xs ys (omega arith) (omega arith))
    ∙ sym
    (then_then (nat_cmp x y) (slice_cmp nat_cmp (take n xs) (take n ys)) (slice_cmp nat_cmp (drop n xs) (drop n ys)))

first_decides : (o p : Ordering) → o ≢ Equal → o ≡ ordering_then o p
first_decides Less p h = refl
first_decides Equal p h = absurd (h refl)
first_decides Greater p h = refl

pub group_decides : (xs ys : List ℕ) (o : Ordering) → 8 ≤ length xs → 8 ≤ length ys
    → o ≡ slice_cmp nat_cmp (take 8 xs) (take 8 ys) → o ≢ Equal → o ≡ slice_cmp nat_cmp xs ys
group_decides xs ys o g h is apart =
    first_decides o (slice_cmp nat_cmp (drop 8 xs) (drop 8 ys)) apart
    ∙ (ap (λ p. ordering_then p (slice_cmp nat_cmp (drop 8 xs) (drop 8 ys))) is ∙ sym (in_two 8 xs ys g h))

pub group_ties : (xs ys : List ℕ) → 8 ≤ length xs → 8 ≤ length ys → slice_cmp nat_cmp (take 8 xs) (take 8 ys) ≡ Equal
    → slice_cmp nat_cmp (drop 8 xs) (drop 8 ys) ≡ slice_cmp nat_cmp xs ys
group_ties xs ys g h tie =
    sym (in_two 8 xs ys g h ∙ ap (λ p. ordering_then p (slice_cmp nat_cmp (drop 8 xs) (drop 8 ys))) tie)
