use Rattle.std.proofs.Common.{arith}
use Rattle.std.proofs.lemmas.Grind.{common_steps}
use Rattle.dz_header.specs.Header.{header_in}
use Rattle.dz_header.proofs.header.header_in.Goals as goal

pub returns : goal.returns
unfolding header_in
returns c = grind (arith, common_steps)
