-- What a call leaves that tells of a fault of the log, or of a job that isn't the core's.
use Rattle.std.proofs.Common.{◌≡◌, ℕ, Bool, true, Result, Ok, Err, ap, ◌∙◌, inl, inr}
use Rattle.std.specs.Prelude.{IsErr, MatchBool}
use Rattle.dz_io.specs.Counts.{HasRisen}
use Rattle.dz_name.specs.Words.{Octets}
use Rattle.dz_job.specs.Job.{JobOf}
use Rattle.dz_fleet.specs.declared.due.Due.{Due}
use Rattle.dz_provision.specs.declared.provisioner.LogFault.{LogFault}
use Rattle.dz_provision.specs.declared.provisioner.Unmade.{Unmade}
use Rattle.dz_provision.specs.declared.provisioner.Unmade.TheVariants as unmade
use Rattle.dz_provision.specs.Held.{Held, Stays, IsHandedOut, IsSettled, IsFailed}

stayed : (h k : Held) → Stays h k → k.failed ≡ true
stayed h k s = ap (λ (x : Held). x.failed) s.same ∙ s.failed

-- a write has failed
pub handed_fault : (h k : Held) (now : ℕ) (r : Result Due LogFault) → IsHandedOut h now r k → IsErr r → k.failed ≡ true
unfolding IsHandedOut
handed_fault h k now (Ok answer) is err = absurd (cc err)
handed_fault h k now (Err fault) (inl s) err = stayed h k s
handed_fault h k now (Err fault) (inr b) err = b.2.failed

pub settled_fault : (h k : Held) (job : JobOf) (octets : Octets) (now : ℕ) (u : Unmade)
    → IsSettled h job octets now (Err u) k → u ≡ unmade.LogFault → k.failed ≡ true
unfolding IsSettled
settled_fault h k job octets now (unmade.NotInFlight absent) is fault = absurd (cc fault)
settled_fault h k job octets now unmade.LogFault (inl s) fault = stayed h k s
settled_fault h k job octets now unmade.LogFault (inr b) fault = b.2.1.failed

pub failed_fault : (h k : Held) (job : JobOf) (now : ℕ) (u : Unmade) → IsFailed h job now (Err u) k
    → u ≡ unmade.LogFault → k.failed ≡ true
unfolding IsFailed
failed_fault h k job now (unmade.NotInFlight absent) is fault = absurd (cc fault)
failed_fault h k job now unmade.LogFault (inl s) fault = stayed h k s
failed_fault h k job now unmade.LogFault (inr b) fault = b.1.failed

-- and so an output of this type can fail
pub can_fail : {K : Type 0} (faults : K → ℕ) (output : K) (failed : Bool) → failed ≡ true
    → MatchBool failed (HasRisen 0 (faults output)) (faults output ≡ 0) → (k : K) × HasRisen 0 (faults k)
can_fail faults output failed is cause = (output, rw is at cause)
