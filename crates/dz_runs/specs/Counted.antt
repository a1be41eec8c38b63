-- Meaning: how many comparisons of names a search takes.
use Rattle.std.specs.Prelude.{ℕ, ◌+◌, ◌*◌, ◌≤◌, ◌^◌}

-- this many searches among this many records, each of at most ceil(log2(2 n + 2)) comparisons, n being the number of
-- records
abbrev pub TakesSearches : ℕ → ℕ → ℕ → Type 0
TakesSearches searches records taken = (bits : ℕ) → 2 * records + 2 ≤ 2 ^ (bits + 1) → taken ≤ searches * (bits + 1)
