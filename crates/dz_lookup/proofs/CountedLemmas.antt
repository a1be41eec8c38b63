-- Searches add up, and each number has a binary logarithm.
use Rattle.std.proofs.Common.{◌≡◌, ℕ, zero, suc, ◌+◌, ◌*◌, ◌<◌, ◌≤◌, inl, inr, arith}
use Rattle.std.specs.Prelude.{◌^◌}
use Rattle.std.proofs.lemmas.Bool.{cases_lt}
use Rattle.std.proofs.Math.Pow.{pow_mono}
use Rattle.std.proofs.lemmas.Grind.{pow_more}
use Rattle.std.proofs.lemmas.Nat.{mul-le}
use native.Mathlib.Nat.{add-mul}
use Rattle.dz_runs.specs.Counted.{TakesSearches}
use Rattle.dz_lookup.specs.Counted.{IsLookup}

-- no search takes nothing
pub searches_none : (searches records taken : ℕ) → taken ≡ 0 → TakesSearches searches records taken
searches_none searches records taken none bits h = omega arith

-- one lot of searches after another
pub searches_add : (a b records s t u : ℕ) → TakesSearches a records s → TakesSearches b records t → u ≤ s + t
    → TakesSearches (a + b) records u
searches_add a b records s t u first second le bits h =
    rw (add-mul a b (bits + 1)) (omega (arith, first bits h, second bits h))

-- fewer searches are within more
pub searches_more : (a b records t : ℕ) → a ≤ b → TakesSearches a records t → TakesSearches b records t
searches_more a b records t le takes bits h =
    let m : a * (bits + 1) ≤ b * (bits + 1) = mul-le a (bits + 1) b (bits + 1) le (omega arith) in
    omega (arith, takes bits h)

-- a number's binary logarithm
logarithm : (n : ℕ) → (bits : ℕ) × (2 ^ bits ≤ n + 1) × (n + 1 < 2 ^ (bits + 1))
logarithm zero = (0, omega arith, omega arith)
logarithm (suc n) =
    let l = logarithm n in
    let next : 2 ^ (l.0 + 1 + 1) ≡ 2 ^ (l.0 + 1) * 2 = pow_more 2 (l.0 + 1) in
    elim (cases_lt (suc n + 1) (2 ^ (l.0 + 1))) [
      | inl below ↦ (l.0, omega (arith, l.1), below)
      | inr reached ↦ (l.0 + 1, omega arith, omega (arith, l.2))
    ]

-- a search for the name, one for each of its labels, and one for a wildcard
pub is_lookup : (labels records taken : ℕ) → TakesSearches (labels + 2) records taken → IsLookup labels records taken
is_lookup labels records taken takes =
    let l = logarithm (2 * records + 1) in
    (l.0, omega (arith, l.1), takes l.0 (omega (arith, l.2)))

-- two labels among 1,022 records
pub few_comparisons : (taken : ℕ) → IsLookup 2 1022 taken → taken ≤ 44
few_comparisons taken is = elim (cases_lt is.0 11) [
  | inl lt ↦ let few : taken ≤ 4 * (is.0 + 1) = is.2 in omega (arith, few, lt)
  | inr ge ↦ let m : 2 ^ 11 ≤ 2 ^ is.0 = pow_mono ge in absurd (omega (arith, m, is.1))
]
