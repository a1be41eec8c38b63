-- The numbers of the zones are small, and none is 0.
use Rattle.std.proofs.Common.{◌≤◌, ℕ, Bool, filter, arith}
use Rattle.std.specs.List.{All, range_with_len}
use Rattle.std.proofs.lemmas.List.Elements.{All-filter}
use Rattle.std.proofs.lemmas.List.FromFn.{get_or-range_with_len, length-range_with_len}

pub range_all : (n limit : ℕ) → n ≤ limit → All (λ k. k ≤ limit) (range_with_len 1 n)
range_all n limit h = λ k d i. omega (
  arith,
  h,
  i,
  length-range_with_len 1 n,
  get_or-range_with_len 1 n k d (omega (arith, i, length-range_with_len 1 n)),
)

pub kept_all : (p : ℕ → Bool) (n limit : ℕ) → n ≤ limit → All (λ k. k ≤ limit) (filter p (range_with_len 1 n))
kept_all p n limit h = All-filter p (λ k. k ≤ limit) (range_with_len 1 n) (range_all n limit h)

pub range_some : (n : ℕ) → All (λ k. 1 ≤ k) (range_with_len 1 n)
range_some n = λ k d i. omega
    (arith, i, length-range_with_len 1 n, get_or-range_with_len 1 n k d (omega (arith, i, length-range_with_len 1 n)))

pub kept_some : (p : ℕ → Bool) (n : ℕ) → All (λ k. 1 ≤ k) (filter p (range_with_len 1 n))
kept_some p n = All-filter p (λ k. 1 ≤ k) (range_with_len 1 n) (range_some n)
