use Rattle.std.proofs.Common.{◌∙◌, ap, sym}
use Rattle.dz_provision.specs.Held.{Held}
use Rattle.dz_provision.proofs.FaultLemmas.{failed_fault, can_fail}
use Rattle.dz_provision.proofs.SettledLemmas.{failed_ok, failed_err}
use Rattle.dz_provision.proofs.AloudLemmas.{failed_aloud}
use Rattle.dz_provision.proofs.provisioner.Provisioner.fail_aloud.Goals as goal
use Rattle.dz_provision.proofs.provisioner.Provisioner.fail_aloud.Goals.{in-Err, in-Ok}

pub returns-clause-failed : goal.returns-clause-failed
returns-clause-failed g c =
    elim c.match-failed.branch [
      | in-Err w ↦ rw w.result-is (failed_err _ _ c.args.job c.args.now w.in-Err.unmade w.in-Err.ensures.failed)
      | in-Ok w ↦
          rw w.result-is (failed_ok _ _ c.args.job c.args.now w.in-Ok.failure w.in-Ok.told w.in-Ok.ensures.failed)
    ]

pub returns-clause-made : goal.returns-clause-made
returns-clause-made g c =
    elim c.match-failed.branch [
      | in-Err w ↦ rw w.result-is tt
      | in-Ok w ↦
          rw w.result-is (failed_aloud _ _ c.args.job c.args.now w.in-Ok.failure w.in-Ok.told w.in-Ok.ensures.failed)
    ]

pub returns-clause-cause : goal.returns-clause-cause
returns-clause-cause g c =
    elim c.match-failed.branch [
      | in-Err w ↦ λ is.
          let q = sym w.result-is ∙ is in
          can_fail g.K.Sink.faults c.self.inside.output c.self.inside.log_failed
          (ap (λ (h : Held). h.failed) c.self.view_is ∙ failed_fault _ _ c.args.job c.args.now w.in-Err.unmade
          w.in-Err.ensures.failed (cc q)) c.self.invariant.4
      | in-Ok w ↦ λ is. absurd (cc (sym w.result-is ∙ is))
    ]
