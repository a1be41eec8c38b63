use Rattle.std.proofs.Common.{refl, ap}
use Rattle.dz_script.specs.Script.{goes_on}
use Rattle.dz_run.specs.Replaying.{running, answer_text}
use Rattle.dz_run.proofs.StepLemmas.{silent_taken}
use Rattle.dz_provision.specs.Log as asides
use Rattle.dz_run.proofs.events.Running.answer.Goals as goal

pub say-requires-clause-line : goal.say-requires-clause-line
say-requires-clause-line g c = (asides.silent, tt, refl)

pub returns-in-Notify : goal.returns-in-Notify
returns-in-Notify g c number =
    rw (← c.self.view_is) (silent_taken c.self.inside.provisioner _ number (rw (← c.self.view_is) at c.requires.«open»)
    (ap (λ reply. goes_on (answer_text reply) (running c.self.inside.provisioner.core)) c.in-Notify.ensures.reply))
