-- Meaning: how many comparisons of keys a search takes.
use Rattle.std.specs.Prelude.{ℕ, ◌+◌, ◌*◌, ◌/◌, ◌≤◌, ◌^◌}

-- so many comparisons a search by halves among so many items takes at most: one more than the binary logarithm of
-- twice as many
abbrev pub IsSearch : ℕ → ℕ → Type 0
IsSearch items taken = 2 ^ taken ≤ 2 * items + 1

-- so many comparisons a search of a map of so many entries takes at most: as many as the number of its chunks and one
-- has bits, and so many more in one chunk
abbrev pub TakesAtMost : ℕ → ℕ → ℕ → Type 0
TakesAtMost entries more taken = (bits : ℕ) → entries / 64 + 2 ≤ 2 ^ bits → taken ≤ bits + more
