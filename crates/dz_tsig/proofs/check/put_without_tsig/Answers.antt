use Rattle.std.proofs.Common.{arith}
use Rattle.std.proofs.lemmas.Grind.{common_steps}
use Rattle.dz_tsig.specs.Signing.{without_tsig}
use Rattle.dz_tsig.proofs.check.put_without_tsig.Goals as goal

pub returns : goal.returns
unfolding without_tsig
returns c = grind (arith, common_steps)
