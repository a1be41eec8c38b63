-- Each call leaves the core after an event.
use Rattle.std.proofs.Common.{◌≡◌, ℕ, Bool, true, false, ◌∙◌, ap, inl, inr}
use Rattle.std.specs.Prelude.{◌⊎◌}
use Rattle.dz_name.specs.Words.{Octets}
use Rattle.dz_job.specs.Job.{JobOf}
use Rattle.dz_job.specs.declared.verdict.Verdict.{Verdict}
use Rattle.dz_job.specs.declared.verdict.Verdict.TheVariants.{Published, Confirmed, Refused, PolicyRefused, Stale}
use Rattle.dz_job.specs.declared.verdict.Verdict.TheVariants.{OutOfMemory}
use Rattle.dz_fleet.specs.declared.due.Due.{Due}
use Rattle.dz_fleet.specs.declared.due.Due.TheVariants as due
use Rattle.dz_fleet.specs.Core.{Core, after_due, after_notify}
use Rattle.dz_fleet.specs.Answers.{IsDue, IsOffered}
use Rattle.dz_fleet.specs.Events.{asked, ended, starved, next, CallsAreEvents}

due_event : (c : Core) (now : ℕ) (answer : Due) (d : Core) → IsDue c now answer d
    → (memory : Bool) × (d ≡ next c (asked now memory))
due_event c now due.OutOfMemory d is = (false, is)
due_event c now (due.Job job) d is = (true, is.1 ∙ ap (after_due c) is.0)
due_event c now (due.Idle quiet) d is = (true, is.1 ∙ ap (after_due c) is.0)
due_event c now (due.Full quiet) d is = (true, is.1 ∙ ap (after_due c) is.0)

offer_event : (c : Core) (job : JobOf) (octets : Octets) (now : ℕ) (verdict : Verdict) (d : Core)
    → IsOffered c job octets now verdict d → (d ≡ next c (ended job octets now)) ⊎ (d ≡ next c (starved job now))
offer_event c job octets now OutOfMemory d is = inr is
offer_event c job octets now (Published position serial aftermath) d is = inl is.1
offer_event c job octets now (Confirmed position serial) d is = inl is.1
offer_event c job octets now (Refused fault) d is = inl is.1
offer_event c job octets now (PolicyRefused standing) d is = inl is.1
offer_event c job octets now (Stale position) d is = inl is.1

pub calls : CallsAreEvents
calls = record { due = due_event; offer = offer_event; notify = λ c peer zone h d e f. f ∙ ap (after_notify c zone) e }
