use Rattle.std.proofs.Common.{arith}
use Rattle.std.proofs.lemmas.Grind.{common_steps}
use Rattle.dz_store.specs.Kept.{head_octets}
use Rattle.dz_store.proofs.payload.head_octets.Goals as goal

pub returns-clause-head : goal.returns-clause-head
unfolding head_octets
returns-clause-head c = grind (arith, common_steps)
