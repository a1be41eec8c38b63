use Rattle.std.proofs.Common.{refl}
use Rattle.dz_provision.specs.Log as asides
use Rattle.dz_run.proofs.events.Running.reply_heard.Goals as goal

pub say-requires-clause-line : goal.say-requires-clause-line
say-requires-clause-line g c = (asides.silent, tt, refl)
