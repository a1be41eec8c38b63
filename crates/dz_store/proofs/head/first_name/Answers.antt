use Rattle.std.proofs.Common.{rules, arith}
use Rattle.std.proofs.lemmas.Grind.{common_steps}
use Rattle.dz_store.specs.Payload.{first_name}
use Rattle.dz_store.proofs.head.first_name.Goals as goal

pub returns-in-Ok : goal.returns-in-Ok
unfolding first_name
returns-in-Ok c = grind (arith, common_steps)

pub returns-in-Err : goal.returns-in-Err
unfolding first_name
returns-in-Err c = search rules
