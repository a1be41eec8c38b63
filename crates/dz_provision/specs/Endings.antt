-- Answer: how a call ended a job: which event of the core it made, which lines were written of it, and how many of
-- them tell of want of memory.
use Rattle.std.specs.Prelude.{◌≡◌, ◌++◌, ℕ, Bool, true, Option, Some, None, Result, Ok, Err}
use Rattle.dz_name.specs.Words.{Octets}
use Rattle.dz_job.specs.Job.{JobOf}
use Rattle.dz_job.specs.declared.verdict.Verdict.{Verdict}
use Rattle.dz_job.specs.declared.verdict.Verdict.TheVariants.{OutOfMemory}
use Rattle.dz_job.specs.declared.verdict.Failure.{Failure}
use Rattle.dz_job.specs.declared.verdict.Failure.TheVariants as failures
use Rattle.dz_fleet.specs.Events.{Event}
use Rattle.dz_fleet.specs.Events as events
use Rattle.dz_report.specs.Lines.{failure_line, verdict_lines}
use Rattle.dz_provision.specs.declared.provisioner.Unmade.{Unmade}

pub record EndingOf : Type 0 where
  pub event : Event
  pub lines : Octets
  pub starved : ℕ

-- by what came of its transfer, with a verdict; for want of memory, of which `nomemory` is written; as one that failed
abbrev pub settling : JobOf → Octets → ℕ → Verdict → EndingOf
settling job octets now OutOfMemory =
    record { event = events.starved job now; lines = verdict_lines job.flight.zone OutOfMemory; starved = 1 }
settling job octets now verdict =
    record { event = events.ended job octets now; lines = verdict_lines job.flight.zone verdict; starved = 0 }

abbrev pub failing : JobOf → ℕ → Failure → EndingOf
failing job now failure =
    record { event = events.failed job now; lines = failure_line job.flight.zone failure; starved = 0 }

-- as one that failed for want of memory, of which `nomemory` is written after its line; where the incarnation had
-- ended it is stale, and has the line of that alone
abbrev pub starving : JobOf → ℕ → Failure → EndingOf
starving job now failures.Failed = record {
  event = events.failed job now;
  lines = failure_line job.flight.zone failures.Failed ++ verdict_lines job.flight.zone OutOfMemory;
  starved = 1;
}
starving job now (failures.Stale n) = failing job now (failures.Stale n)

-- by the answer: where it is an error the call made no event, or its lines were not written whole
abbrev pub settled_ending : JobOf → Octets → ℕ → Result Verdict Unmade → Option EndingOf
settled_ending job octets now (Ok verdict) = Some (settling job octets now verdict)
settled_ending job octets now (Err why) = None

abbrev pub failed_ending : JobOf → ℕ → Result Failure Unmade → Option EndingOf
failed_ending job now (Ok failure) = Some (failing job now failure)
failed_ending job now (Err why) = None

abbrev pub starved_ending : JobOf → ℕ → Result Failure Unmade → Option EndingOf
starved_ending job now (Ok failure) = Some (starving job now failure)
starved_ending job now (Err why) = None

-- how many lines of want of memory a call wrote
abbrev pub starved_in : Option EndingOf → ℕ
starved_in (Some ending) = ending.starved
starved_in None = 0

-- a job ended, at one of these moments
abbrev pub HappensAmong : (ℕ → Bool) → Event → Type 0
HappensAmong may (events.asked now memory) = ⊥
HappensAmong may (events.ended job octets now) = may now ≡ true
HappensAmong may (events.starved job now) = may now ≡ true
HappensAmong may (events.failed job now) = may now ≡ true
HappensAmong may (events.notified peer zone) = ⊥

abbrev pub EndsAmong : (ℕ → Bool) → EndingOf → Type 0
EndsAmong may e = HappensAmong may e.event
