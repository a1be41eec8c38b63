use Rattle.std.proofs.Common.{rules, arith}
use Rattle.std.proofs.lemmas.Grind.{common_steps}
use Rattle.dz_store.specs.Payload.{forgotten_of}
use Rattle.dz_store.proofs.head.forgotten_of.Goals as goal

pub returns-in-2 : goal.returns-in-2
unfolding forgotten_of
returns-in-2 c = grind (arith, common_steps)

pub returns-in_default : goal.returns-in_default
unfolding forgotten_of
returns-in_default c = search rules
