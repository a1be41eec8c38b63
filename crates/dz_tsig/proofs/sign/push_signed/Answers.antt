use Rattle.std.proofs.Common.{arith}
use Rattle.std.proofs.lemmas.Grind.{common_steps}
use Rattle.dz_tsig.specs.Signing.{with_tsig}
use Rattle.dz_tsig.proofs.sign.push_signed.Goals as goal

pub returns : goal.returns
unfolding with_tsig
returns c = grind (arith, common_steps)
