use Rattle.std.proofs.Common.{arith}
use Rattle.std.proofs.lemmas.Grind.{common_steps}
use Rattle.dz_tsig.specs.Signing.{tsig_head}
use Rattle.dz_tsig.proofs.sign.push_head.Goals as goal

pub returns : goal.returns
unfolding tsig_head
returns c = grind (arith, common_steps)
