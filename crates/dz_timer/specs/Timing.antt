-- Meaning: when the next job of a zone is due, and how long a version answers (RFC 1035 section 3.3.13, RFC 1996
-- section 3.11).
use Rattle.std.specs.Prelude.{ℕ, ◌+◌, Bool, true, false, not, ◌&&◌, ◌||◌, nat_le, nat_lt, max, Option, Some, None}
use Rattle.std.specs.Prelude.{if◌then◌else◌}
use Rattle.dz_timer.specs.declared.timer.TheConstants.{UNHELD_RETRY}

-- the timing of a zone: the moment in seconds from which its next job is due, whether a NOTIFY came while a job was in
-- flight, and whether one is in flight
pub record Timing : Type 0 where
  pub next : ℕ
  pub again : Bool
  pub busy : Bool

-- a new zone is due at once
abbrev pub fresh : Timing
fresh = record { next = 0; again = false; busy = false }

-- a zone is due from its moment on, except while a job is in flight
abbrev pub is_due : Timing → ℕ → Bool
is_due timing now = not timing.busy && nat_le timing.next now

-- a job starts
abbrev pub departed : Timing → Timing
departed timing = record timing { busy = true }

-- a wait of 0 seconds counts as 1
abbrev pub wait : ℕ → ℕ
wait seconds = max seconds 1

-- the job in flight ends, and the next is due at this moment, or at once where a NOTIFY came meanwhile
abbrev pub ended_at : Timing → ℕ → Timing
ended_at timing moment = record { next = if timing.again then 0 else moment; again = false; busy = false }

-- after a success the zone waits REFRESH seconds from the moment of its job (RFC 1035 section 3.3.13)
abbrev pub succeeded : Timing → ℕ → ℕ → Timing
succeeded timing moment refresh = ended_at timing (moment + wait refresh)

-- after a failure it waits RETRY seconds from now (RFC 1035 section 3.3.13), or a minute where no version is held
abbrev pub failed : Timing → ℕ → Option ℕ → Timing
failed timing now (Some retry) = ended_at timing (now + wait retry)
failed timing now None = ended_at timing (now + UNHELD_RETRY)

-- after a job with neither success nor failure the zone is due as it was before
abbrev pub ended : Timing → Timing
ended timing = ended_at timing timing.next

-- a NOTIFY makes the zone due at once, as if its REFRESH had passed (RFC 1996 section 3.11); where a job is in flight,
-- it is due again at the end of that job
abbrev pub notified : Timing → Timing
notified timing = record timing { next = 0; again = timing.busy || timing.again }

-- a version answers until EXPIRE seconds have passed since its last refresh (RFC 1035 section 3.3.13)
abbrev pub is_live : ℕ → ℕ → ℕ → Bool
is_live refreshed expire moment = nat_lt moment (refreshed + expire)
