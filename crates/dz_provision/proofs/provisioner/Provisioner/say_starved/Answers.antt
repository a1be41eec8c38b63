use Rattle.std.proofs.Common.{◌∙◌, ap, sym}
use Rattle.dz_provision.specs.Held.{Held}
use Rattle.dz_provision.proofs.FaultLemmas.{can_fail}
use Rattle.dz_provision.proofs.provisioner.Provisioner.say_starved.Goals as goal
use Rattle.dz_provision.proofs.provisioner.Provisioner.say_starved.Goals.{in-Ok, in-Err}

pub returns-clause-cause : goal.returns-clause-cause
returns-clause-cause g c =
    elim c.match-said.branch [
      | in-Ok w ↦ λ is. absurd (cc (sym w.result-is ∙ is))
      | in-Err w ↦ λ is.
          can_fail g.K.Sink.faults c.self.inside.output c.self.inside.log_failed
          (ap (λ (h : Held). h.failed) c.self.view_is ∙ w.in-Err.ensures.failed) c.self.invariant.4
    ]
