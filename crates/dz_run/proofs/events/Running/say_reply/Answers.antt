use Rattle.std.proofs.Common.{rules}
use Rattle.dz_desk.proofs.PrefixLemmas.{prefix_self}
use Rattle.dz_provision.specs.Log as asides
use Rattle.dz_run.proofs.StepLemmas.{wanting}
use Rattle.dz_run.proofs.events.Running.say_reply.Goals as goal

pub returns-in-Err : goal.returns-in-Err
returns-in-Err g c number = wanting c.args.self.now _ number (prefix_self c.args.self.now.core.list)

pub say-requires-clause-line : goal.say-requires-clause-line
say-requires-clause-line g c = (asides.replied c.args.octets.now, tt, search rules)
