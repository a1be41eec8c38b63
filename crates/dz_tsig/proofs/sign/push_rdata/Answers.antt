use Rattle.std.proofs.Common.{arith}
use Rattle.std.proofs.lemmas.Grind.{common_steps}
use Rattle.dz_tsig.specs.Signing.{tsig_rdata}
use Rattle.dz_tsig.proofs.sign.push_rdata.Goals as goal

pub returns : goal.returns
unfolding tsig_rdata
returns c = grind (arith, common_steps)
