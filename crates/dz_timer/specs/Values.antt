-- Meaning: what a zone waits for (RFC 1035 section 3.3.13, RFC 1995 section 4, RFC 1996 section 3.11).
use Rattle.std.specs.Prelude.{ℕ, ◌+◌, ◌%◌, Bool, true, false, Option}
use Rattle.dz_timer.specs.Timing.{Timing}
use Rattle.dz_timer.specs.Timing as timer

-- the values of a zone: its timing, whether its next job asks for the whole zone, and the number of the primary that
-- it asks
pub record ValuesOf : Type 0 where
  pub timing : Timing
  pub whole : Bool
  pub turn : ℕ

-- a new zone is due at once, and asks its first primary
abbrev pub fresh : ValuesOf
fresh = record { timing = timer.fresh; whole = false; turn = 0 }

-- a job starts
abbrev pub departed : ValuesOf → ValuesOf
departed values = record values { timing = timer.departed values.timing }

-- after a success differences are asked for again (RFC 1995 section 4), of the same primary
abbrev pub succeeded : ValuesOf → ℕ → ℕ → ValuesOf
succeeded values moment refresh =
    record values { timing = timer.succeeded values.timing moment refresh; whole = false }

-- the number of the primary after this one, of the given number, in rotation
abbrev pub next_turn : ℕ → ℕ → ℕ
next_turn turn primaries = (turn + 1) % primaries

-- after a failure the next primary is asked for the same as before
abbrev pub failed : ValuesOf → ℕ → Option ℕ → ℕ → ValuesOf
failed values now retry primaries =
    record values { timing = timer.failed values.timing now retry; turn = next_turn values.turn primaries }

-- a response that isn't accepted is a failure, and the whole zone is asked for next (RFC 1995 section 4)
abbrev pub refused : ValuesOf → ℕ → Option ℕ → ℕ → ValuesOf
refused values now retry primaries = record (failed values now retry primaries) { whole = true }

-- a NOTIFY changes only the timing (RFC 1996 section 3.11)
abbrev pub notified : ValuesOf → ValuesOf
notified values = record values { timing = timer.notified values.timing }

-- where the primaries change, they are asked from the first on
abbrev pub turned_back : ValuesOf → ValuesOf
turned_back values = record values { turn = 0 }
