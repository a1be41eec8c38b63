-- Meaning: how many comparisons of names a lookup takes.
use Rattle.std.specs.Prelude.{ℕ, ◌+◌, ◌*◌, ◌≤◌, ◌^◌}

-- a lookup of a name of this many labels: a search for the name, for each name above it and for a wildcard. Each takes
-- at most floor(log2(2 n + 2)) + 1 comparisons, n being the number of records.
abbrev pub IsLookup : ℕ → ℕ → ℕ → Type 0
IsLookup labels records taken = (bits : ℕ) × (2 ^ bits ≤ 2 * records + 2) × (taken ≤ (labels + 2) * (bits + 1))
