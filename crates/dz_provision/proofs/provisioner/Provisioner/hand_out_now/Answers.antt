use Rattle.std.proofs.Common.{◌∙◌, ap}
use Rattle.dz_provision.specs.Held.{Held}
use Rattle.dz_provision.proofs.FaultLemmas.{handed_fault, can_fail}
use Rattle.dz_provision.proofs.HandedLemmas.{handed_now}
use Rattle.dz_provision.proofs.provisioner.Provisioner.hand_out_now.Goals as goal

pub returns-clause-handed : goal.returns-clause-handed
returns-clause-handed g c = handed_now _ _ c.args.now _ c.requires.sound c.hand_out-handed.ensures.made

pub returns-clause-cause : goal.returns-clause-cause
returns-clause-cause g c = λ err. can_fail g.K.Sink.faults c.self.inside.output c.self.inside.log_failed
    (ap (λ (h : Held). h.failed) c.self.view_is ∙ handed_fault _ _ c.args.now _ c.hand_out-handed.ensures.made err)
    c.self.invariant.4
