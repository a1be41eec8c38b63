-- Inner: a transfer that was weighed, with its lines.
use Rattle.std.specs.Prelude.{◌≡◌, ℕ, Bool, true, false}
use Rattle.dz_job.specs.Job.{JobOf}
use Rattle.dz_job.specs.declared.verdict.Verdict.{Verdict}
use Rattle.dz_job.specs.declared.verdict.Verdict.TheVariants.{OutOfMemory}
use Rattle.dz_fleet.specs.Core.{Core, failed_core}
use Rattle.dz_fleet.specs.Weighing.{Fits}
use Rattle.dz_report.specs.Lines.{verdict_lines}
use Rattle.dz_provision.specs.declared.settle.Ready.{Ready}
use Rattle.dz_provision.specs.Held.{Held}

-- it fits this core and this job, and its lines are those of its verdict
pub record IsReady (c : Core) (job : JobOf) (r : Ready) : Type 0 where
  pub fits : Fits c job r.weighed
  pub moment : r.weighed.moment ≡ r.moment
  pub lines : r.lines.items ≡ verdict_lines job.flight.zone r.weighed.verdict

-- a job ends for want of memory, and nothing is written
pub record IsStarved (h : Held) (job : JobOf) (now : ℕ) (answer : Verdict) (k : Held) : Type 0 where
  pub verdict : answer ≡ OutOfMemory
  pub rest : k ≡ record h { core = failed_core h.core job now }

-- memory was wanting
abbrev pub is_want : Verdict → Bool
is_want OutOfMemory = true
is_want verdict = false
