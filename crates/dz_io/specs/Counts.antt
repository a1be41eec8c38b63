-- Meaning: counts of faults. A count never falls, and at 2^64 - 1 it counts as risen by any number.
use Rattle.std.specs.Prelude.{◌≡◌, ◌<◌, ◌≤◌, ◌⊎◌, ◌+◌, ◌-◌, ◌^◌, ℕ}

-- the count rose, or is at the maximum, from which it can't rise
abbrev pub HasRisen : ℕ → ℕ → Type 0
HasRisen before now = (before < now) ⊎ (2 ^ 64 - 1 ≤ now)

-- the count rose by this number, or is at the maximum
abbrev pub HasRisenBy : ℕ → ℕ → ℕ → Type 0
HasRisenBy n before now = (before + n ≤ now) ⊎ (2 ^ 64 - 1 ≤ now)

-- something came back with a count of faults, and this count covers it: it doesn't fall, it is the same where the
-- other is 0, and it rises otherwise
pub record Covers (brought before now : ℕ) : Type 0 where
  pub later : before ≤ now
  pub kept : brought ≡ 0 → now ≡ before
  pub risen : HasRisen 0 brought → HasRisen before now

-- a count that rose by one number and then by another rose by their sum
abbrev pub RisesAddUp : Type 0
RisesAddUp = (n more before middle now : ℕ) → HasRisenBy n before middle → HasRisenBy more middle now
    → HasRisenBy (n + more) before now

-- a count that rose has still risen later, where it doesn't fall
abbrev pub RisesLast : Type 0
RisesLast = (before middle now : ℕ) → HasRisen before middle → middle ≤ now → HasRisen before now
