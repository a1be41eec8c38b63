use Rattle.std.proofs.Common.{rules, arith}
use Rattle.std.proofs.lemmas.Grind.{common_steps}
use Rattle.dz_store.specs.Payload.{head_of}
use Rattle.dz_store.proofs.head.head_of.Goals as goal

pub returns-in-1 : goal.returns-in-1
unfolding head_of
returns-in-1 c = grind (arith, common_steps)

pub returns-in_default : goal.returns-in_default
unfolding head_of
returns-in_default c = search rules
