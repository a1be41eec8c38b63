-- Answer: what the calls of a core answer.
use Rattle.std.specs.Prelude.{⊤, ◌≡◌, ℕ}
use Rattle.dz_fleet.specs.declared.due.Due.{Due}
use Rattle.dz_fleet.specs.declared.due.Due.TheVariants as due
use Rattle.dz_fleet.specs.Core.{Core, due_of, after_due, verdict_of, settled, failed_core}
use Rattle.dz_fleet.specs.Sound.{IsFlying}
use Rattle.dz_name.specs.Words.{Octets}
use Rattle.dz_job.specs.declared.verdict.Verdict.{Verdict}
use Rattle.dz_job.specs.declared.verdict.Verdict.TheVariants.{OutOfMemory}
use Rattle.dz_job.specs.Job.{JobOf}

-- a job that was handed out is this core's
abbrev pub IsHanded : Due → Core → Type 0
IsHanded (due.Job job) c = IsFlying c job
IsHanded (due.Idle quiet) c = ⊤
IsHanded (due.Full quiet) c = ⊤
IsHanded due.OutOfMemory c = ⊤

-- what is answered and what is left; running out of memory changes nothing
abbrev pub IsDue : Core → ℕ → Due → Core → Type 0
IsDue c now due.OutOfMemory d = d ≡ c
IsDue c now answer d = (answer ≡ due_of c now) × (d ≡ after_due c answer)

-- what `offer` answers and leaves
abbrev pub IsOffered : Core → JobOf → Octets → ℕ → Verdict → Core → Type 0
IsOffered c job octets now OutOfMemory d = d ≡ failed_core c job now
IsOffered c job octets now verdict d = (verdict ≡ verdict_of c job octets) × (d ≡ settled c job octets now)
