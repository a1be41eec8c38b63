-- The numbers of zones are in the order of their digits.
use Rattle.std.proofs.Common.{◌≡◌, ℕ, zero, suc, ◌+◌, ◌<◌, ◌≤◌, Bool, true, false, map, List, [], ◌∷◌, ◌++◌, length}
use Rattle.std.proofs.Common.{drop, refl, sym, ◌∙◌, ap, arith, inl, inr, Ordering, Less, Equal, Greater}
use Rattle.std.specs.Prelude.{codes, decimal}
use Rattle.std.specs.Cmp.{nat_cmp_is}
use Rattle.std.specs.Cmp.Lexicographic.{slice_cmp}
use Rattle.std.specs.List.{AllByRecursion, range_with_len}
use Rattle.std.specs.List.Sorted.{IsStrictlySortedBy}
use Rattle.std.specs.Ordering.{nat_cmp, ordering_then, ordering_reverse}
use Rattle.std.proofs.lemmas.Bool.{cases_lt}
use Rattle.dz_name.specs.Words.{Octets}
use Rattle.dz_name.specs.Name.{canonical_order, label_order}
use Rattle.dz_name.specs.Order.{canonical_total, label_total}
use Rattle.dz_name.specs.Decimal.{value_of}
use Rattle.dz_member.specs.Sorting.{insert_by, sorted_by}
use Rattle.dz_gen.specs.Texts.{digits}
use Rattle.dz_gen.specs.Records.{zone}
use Rattle.dz_gen.proofs.DecimalLemmas.{AreDigits, number_spelled}
use Rattle.dz_gen.proofs.MessageLemmas.{IsZone}
use Rattle.dz_gen.proofs.SpelledLemmas.{four_digits, zone_is}

-- zeros before a number count nothing
zeros_add : (n : ℕ) (zs xs : Octets) → AllByRecursion (λ z. z ≡ 48) zs → value_of (drop n zs ++ xs) ≡ value_of xs
zeros_add zero [] xs h = refl
zeros_add zero (z ∷ zs) xs h = rw h.0 (zeros_add zero zs xs h.1)
zeros_add (suc n) [] xs h = refl
zeros_add (suc n) (z ∷ zs) xs h = zeros_add n zs xs h.1

value_digits : (k : ℕ) → IsZone k → value_of (digits k) ≡ k
value_digits k is =
    zeros_add (length (decimal k)) (codes "0000") (decimal k) (refl, (refl, (refl, (refl, tt))))
    ∙ (number_spelled k is.some (omega (arith, is.few))).value

-- texts of one length, by their first octets
less_first : (a e : ℕ) (xs ys : Octets) → a < e → slice_cmp nat_cmp (a ∷ xs) (e ∷ ys) ≡ Less
less_first a e xs ys l = ap (λ o. ordering_then o (slice_cmp nat_cmp xs ys)) (sym (nat_cmp_is a e Less l))

less_next : (a e : ℕ) (xs ys : Octets) → a ≡ e → slice_cmp nat_cmp xs ys ≡ Less → slice_cmp nat_cmp (a ∷ xs) (e ∷ ys)
    ≡ Less
less_next a e xs ys same l = ap (λ o. ordering_then o (slice_cmp nat_cmp xs ys)) (sym (nat_cmp_is a e Equal same)) ∙ l

four_less : (a b c d e f g h : ℕ) → AreDigits (a ∷ b ∷ c ∷ d ∷ []) → AreDigits (e ∷ f ∷ g ∷ h ∷ [])
    → value_of (a ∷ b ∷ c ∷ d ∷ []) < value_of (e ∷ f ∷ g ∷ h ∷ [])
    → slice_cmp nat_cmp (a ∷ b ∷ c ∷ d ∷ []) (e ∷ f ∷ g ∷ h ∷ []) ≡ Less
four_less a b c d e f g h p q l = elim (cases_lt a e) [
  | inl lt ↦ less_first a e (b ∷ c ∷ d ∷ []) (f ∷ g ∷ h ∷ []) lt
  | inr le ↦
      let one : a ≡ e = omega (arith, l, le, p.0, p.1.0, p.1.1.0, p.1.1.1.0, q.0, q.1.0, q.1.1.0, q.1.1.1.0) in
      less_next a e (b ∷ c ∷ d ∷ []) (f ∷ g ∷ h ∷ []) one (elim (cases_lt b f) [
        | inl lt ↦ less_first b f (c ∷ d ∷ []) (g ∷ h ∷ []) lt
        | inr le2 ↦
            let two : b ≡ f = omega (
              arith,
              l,
              le2,
              one,
              p.0,
              p.1.0,
              p.1.1.0,
              p.1.1.1.0,
              q.0,
              q.1.0,
              q.1.1.0,
              q.1.1.1.0,
            ) in
            less_next b f (c ∷ d ∷ []) (g ∷ h ∷ []) two (elim (cases_lt c g) [
              | inl lt ↦ less_first c g (d ∷ []) (h ∷ []) lt
              | inr le3 ↦
                  let three : c ≡ g = omega (
                    arith,
                    l,
                    le3,
                    one,
                    two,
                    p.0,
                    p.1.0,
                    p.1.1.0,
                    p.1.1.1.0,
                    q.0,
                    q.1.0,
                    q.1.1.0,
                    q.1.1.1.0,
                  ) in
                  less_next c g (d ∷ []) (h ∷ []) three
                  (less_first d h [] [] (omega (arith, l, one, two, three, p.1.1.1.0, q.1.1.1.0)))
            ])
      ])
]

-- a smaller number has the lesser digits
digits_less : (j k : ℕ) → IsZone j → IsZone k → j < k → slice_cmp nat_cmp (digits j) (digits k) ≡ Less
digits_less j k is also l =
    let f = four_digits j is.some is.few in
    let g = four_digits k also.some also.few in
    let m : value_of (f.a ∷ f.b ∷ f.c ∷ f.d ∷ []) ≡ j = ap value_of (sym f.are) ∙ value_digits j is in
    let n : value_of (g.a ∷ g.b ∷ g.c ∷ g.d ∷ []) ≡ k = ap value_of (sym g.are) ∙ value_digits k also in
    rw (f.are, g.are) (four_less f.a f.b f.c f.d g.a g.b g.c g.d f.digits g.digits (rw (m, n) l))

-- ---- names and labels
last_label : (x y : Octets) → slice_cmp nat_cmp x y ≡ Less
    → canonical_order (x ∷ codes "test" ∷ []) (y ∷ codes "test" ∷ []) ≡ Less
last_label x y l = ap (λ o. ordering_then o Equal) l

-- the zone of a smaller number comes first in canonical order
pub zone_less : (j k : ℕ) → IsZone j → IsZone k → j < k → canonical_order (zone j) (zone k) ≡ Less
zone_less j k is also l =
    let f = four_digits j is.some is.few in
    let g = four_digits k also.some also.few in
    let d : slice_cmp nat_cmp (f.a ∷ f.b ∷ f.c ∷ f.d ∷ []) (g.a ∷ g.b ∷ g.c ∷ g.d ∷ []) ≡ Less =
    rw (f.are, g.are) at (digits_less j k is also l) in
    rw (zone_is j f, zone_is k g) (last_label (122 ∷ f.a ∷ f.b ∷ f.c ∷ f.d ∷ []) (122 ∷ g.a ∷ g.b ∷ g.c ∷ g.d ∷ []) d)

pub zone_greater : (j k : ℕ) → IsZone j → IsZone k → j < k → canonical_order (zone k) (zone j) ≡ Greater
zone_greater j k is also l = canonical_total.antisymm (zone k) (zone j)
    ∙ ap ordering_reverse (zone_less j k is also l)

-- labels of nodes
abbrev pub label_of : ℕ → Octets
label_of k = codes "m" ++ digits k

abbrev pub moved_label : Octets
moved_label = codes "r" ++ digits 1

pub label_less : (j k : ℕ) → IsZone j → IsZone k → j < k → label_order (label_of j) (label_of k) ≡ Less
label_less j k is also l = digits_less j k is also l

pub label_greater : (j k : ℕ) → IsZone j → IsZone k → j < k → label_order (label_of k) (label_of j) ≡ Greater
label_greater j k is also l = label_total.antisymm (label_of k) (label_of j)
    ∙ ap ordering_reverse (label_less j k is also l)

pub moved_last : (k : ℕ) → label_order (label_of k) moved_label ≡ Less
moved_last k = refl

-- ---- numbers that rise
abbrev pub Rising : List ℕ → Type 0
Rising [] = Unit {0}
Rising (k ∷ ks) = AllByRecursion (λ j. k < j) ks × Rising ks

range_above : (b a n : ℕ) → b < a → AllByRecursion (λ k. b < k) (range_with_len a n)
range_above b a zero l = tt
range_above b a (suc n) l = (l, range_above b (a + 1) n (omega arith))

pub range_rising : (a n : ℕ) → Rising (range_with_len a n)
range_rising a zero = tt
range_rising a (suc n) = (range_above a (a + 1) n (omega arith), range_rising (a + 1) n)

-- numbers up to 1,000 are those of zones
pub range_zones : (a n : ℕ) → 0 < a → a + n ≤ 1001 → AllByRecursion IsZone (range_with_len a n)
range_zones a zero some few = tt
range_zones a (suc n) some few =
    (record { some = some; few = omega arith }, range_zones (a + 1) n (omega arith) (omega arith))

-- keys that rise with the numbers
module _ {K X : Type 0} (R : K → K → Ordering) (key : X → K) (f : ℕ → X) (less : (j k : ℕ) → IsZone j → IsZone k
    → j < k → R (key (f j)) (key (f k)) ≡ Less) where
  keys_above : (j : ℕ) → IsZone j → (ks : List ℕ) → AllByRecursion IsZone ks → AllByRecursion (λ k. j < k) ks
      → AllByRecursion (λ y. R (key (f j)) y ≡ Less) (map key (map f ks))
  keys_above j is [] zs above = tt
  keys_above j is (k ∷ ks) zs above = (less j k is zs.0 above.0, keys_above j is ks zs.1 above.1)

  pub keys_rise : (ks : List ℕ) → AllByRecursion IsZone ks → Rising ks → IsStrictlySortedBy R (map key (map f ks))
  unfolding IsStrictlySortedBy
  keys_rise [] zs up = tt
  keys_rise (k ∷ ks) zs up = (keys_above k zs.0 ks zs.1 up.0, keys_rise ks zs.1 up.1)

-- what rises with the numbers is sorted already
module _ {X : Type 0} (lt : X → X → Bool) (f : ℕ → X) (later : (j k : ℕ) → IsZone j → IsZone k → j < k
    → lt (f k) (f j) ≡ false) where
  stays_first : (j : ℕ) → IsZone j → (ks : List ℕ) → AllByRecursion IsZone ks → AllByRecursion (λ k. j < k) ks
      → insert_by lt (f j) (map f ks) ≡ f j ∷ map f ks
  stays_first j is [] zs above = refl
  stays_first j is (k ∷ ks) zs above = rw (later j k is zs.0 above.0) refl

  pub sorted_stays : (ks : List ℕ) → AllByRecursion IsZone ks → Rising ks → sorted_by lt (map f ks) ≡ map f ks
  sorted_stays [] zs up = refl
  sorted_stays (k ∷ ks) zs up = ap (insert_by lt (f k)) (sorted_stays ks zs.1 up.1) ∙ stays_first k zs.0 ks zs.1 up.0

  module _ (x : X) where
    -- an element that comes before all, after them
    pub comes_first : (ks : List ℕ) → AllByRecursion IsZone ks → Rising ks
        → AllByRecursion (λ k. lt x (f k) ≡ true) ks → sorted_by lt (map f ks ++ x ∷ []) ≡ x ∷ map f ks
    comes_first [] zs up first = refl
    comes_first (k ∷ ks) zs up first =
        ap (insert_by lt (f k)) (comes_first ks zs.1 up.1 first.1)
        ∙ rw first.0 (ap (λ ys. x ∷ ys) (stays_first k zs.0 ks zs.1 up.0))

    -- an element that comes after all, before them
    pub goes_last : (ks : List ℕ) → AllByRecursion (λ k. lt (f k) x ≡ true) ks → insert_by lt x (map f ks)
        ≡ map f ks ++ x ∷ []
    goes_last [] last = refl
    goes_last (k ∷ ks) last = rw last.0 (ap (λ ys. f k ∷ ys) (goes_last ks last.1))
