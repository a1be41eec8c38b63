-- A search by halves: its steps, and what it leaves on either side.
use Rattle.std.proofs.Common.{◌≡◌, ℕ, ◌+◌, ◌*◌, ◌<◌, ◌≤◌, Bool, true, false, List, length, get_or, sym, ◌∙◌, ap, arith}
use Rattle.std.proofs.Common.{inl, inr}
use Rattle.std.specs.Prelude.{◌^◌, ◌/◌}
use Rattle.std.specs.List.Sorted.{IsPartitionedBy}
use Rattle.std.proofs.lemmas.Bool.{cases_Bool, cases_lt, false≢true}
use Rattle.std.proofs.lemmas.List.{get_or_default}
use Rattle.std.proofs.lemmas.Nat.{mul-le}
use Rattle.std.proofs.Math.Pow.{pow_mono}
use Rattle.std.proofs.lemmas.Grind.{pow_more}
use Rattle.dz_chunks.specs.Search.{TakesAtMost}

pub halved : (t u s r n : ℕ) → u ≡ t + 1 → 2 ^ t * s ≤ n → 2 * r ≤ s → 2 ^ u * r ≤ n
halved t u s r n is h le =
    let p : 2 ^ u ≡ 2 ^ t * 2 = ap (λ k. 2 ^ k) is ∙ pow_more 2 t in
    let m : 2 ^ t * (2 * r) ≤ 2 ^ t * s = mul-le (2 ^ t) (2 * r) (2 ^ t) s (omega arith) le in
    rw p (omega arith)

pub doubled : (t u s n : ℕ) → u ≡ t + 1 → 2 ^ t * s ≤ n → 0 < s → 2 ^ u ≤ 2 * n + 1
doubled t u s n is h some =
    let p : 2 ^ u ≡ 2 ^ t * 2 = ap (λ k. 2 ^ k) is ∙ pow_more 2 t in
    let m : 2 ^ t * 1 ≤ 2 ^ t * s = mul-le (2 ^ t) 1 (2 ^ t) s (omega arith) (omega arith) in
    rw p (omega arith)

module _ {X : Type 0} (p : X → Bool) (xs : List X) (parted : IsPartitionedBy p xs) (middle : ℕ) (m : X)
    (is : m ≡ get_or xs middle m) (within : middle < length xs) where
  -- the answer of one item, carried to those before it or after it
  pub before_more : p m ≡ true → (j : ℕ) (d : X) → j < middle + 1 → p (get_or xs j d) ≡ true
  before_more told j d lt =
      parted j middle d (omega arith) within (ap p (get_or_default xs middle d m within) ∙ (ap p (sym is) ∙ told))

  pub behind_more : p m ≡ false → (j : ℕ) (d : X) → middle ≤ j → j < length xs → p (get_or xs j d) ≡ false
  behind_more told j d le lt = elim (cases_Bool (p (get_or xs j d))) [
    | inl t ↦ absurd
        (false≢true (sym told ∙ (ap p is ∙ (ap p (get_or_default xs middle m d within) ∙ parted middle j d le lt t))))
    | inr f ↦ f
  ]

-- a search in a chunk
pub in_chunk : (n t : ℕ) → n ≤ 128 → 2 ^ t ≤ 2 * n + 1 → t ≤ 8
in_chunk n t few h = elim (cases_lt 8 t) [
  | inl lt ↦ let m : 2 ^ 9 ≤ 2 ^ t = pow_mono lt in absurd (omega arith)
  | inr ge ↦ ge
]

-- .. and among chunks, of which there are few
among : (entries m t bits : ℕ) → m ≤ entries / 64 + 1 → 2 ^ t ≤ 2 * m + 1 → entries / 64 + 2 ≤ 2 ^ bits → t ≤ bits
among entries m t bits few h le = elim (cases_lt bits t) [
  | inl lt ↦
      let p : 2 ^ (bits + 1) ≡ 2 ^ bits * 2 = pow_more 2 bits in
      let m : 2 ^ (bits + 1) ≤ 2 ^ t = pow_mono (omega arith) in
      absurd (omega arith)
  | inr ge ↦ ge
]

pub takes_at_most : (entries m t more taken : ℕ) → m ≤ entries / 64 + 1 → 2 ^ t ≤ 2 * m + 1 → taken ≤ t + more
    → TakesAtMost entries more taken
takes_at_most entries m t more taken few h le bits enough = omega (arith, among entries m t bits few h enough, le)
