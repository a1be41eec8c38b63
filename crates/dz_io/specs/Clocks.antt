-- Meaning: the moments that a clock reports.
use Rattle.std.specs.Prelude.{ℕ, List, [], ◌∷◌, Option, IsSome}
use Rattle.dz_io.specs.Device.{Gains}

-- a moment is appended to those that the clock has given, where it still reports them
abbrev pub GivesMoment : ℕ → Option (List ℕ) → Option (List ℕ) → Type 0
GivesMoment moment before after = IsSome after → Gains (moment ∷ []) before after
