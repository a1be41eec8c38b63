-- Judge: laws of the timing of a zone.
use Rattle.std.specs.Prelude.{◌≡◌, ℕ, ◌+◌, ◌<◌, ◌≤◌, true, false, Option, Some}
use Rattle.dz_timer.specs.Timing.{Timing, is_due, succeeded, failed, ended, notified}

-- a NOTIFY makes a zone due: at once, or at the end of the job in flight, however it ends
pub record IsDueAfterNotify (timing : Timing) (now : ℕ) : Type 0 where
  pub idle : timing.busy ≡ false → is_due (notified timing) now ≡ true
  pub success : timing.busy ≡ true → (moment refresh : ℕ)
      → is_due (succeeded (notified timing) moment refresh) now ≡ true
  pub failure : timing.busy ≡ true → (moment : ℕ) (retry : Option ℕ)
      → is_due (failed (notified timing) moment retry) now ≡ true
  pub neither : timing.busy ≡ true → is_due (ended (notified timing)) now ≡ true

-- every NOTIFY makes the zone due
abbrev pub NotifyIsKept : Type 0
NotifyIsKept = (timing : Timing) (now : ℕ) → IsDueAfterNotify timing now

-- without a NOTIFY a zone isn't due before its wait has passed, nor at the very moment of its job; then it is
pub record Waits (timing : Timing) (moment seconds now : ℕ) : Type 0 where
  pub refresh_first : now < moment + seconds → is_due (succeeded timing moment seconds) now ≡ false
  pub retry_first : now < moment + seconds → is_due (failed timing moment (Some seconds)) now ≡ false
  pub success_waits : is_due (succeeded timing moment seconds) moment ≡ false
  pub failure_waits : is_due (failed timing moment (Some seconds)) moment ≡ false
  pub refreshes : moment < now → moment + seconds ≤ now → is_due (succeeded timing moment seconds) now ≡ true
  pub retries : moment < now → moment + seconds ≤ now → is_due (failed timing moment (Some seconds)) now ≡ true

-- every zone without a NOTIFY waits as long as its SOA says
abbrev pub JobWaits : Type 0
JobWaits = (timing : Timing) (moment seconds now : ℕ) → timing.again ≡ false → Waits timing moment seconds now
