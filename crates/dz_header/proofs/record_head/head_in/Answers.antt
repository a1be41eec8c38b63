use Rattle.std.proofs.Common.{arith}
use Rattle.std.proofs.lemmas.Grind.{common_steps}
use Rattle.dz_header.specs.RecordHead.{head_in}
use Rattle.dz_header.proofs.record_head.head_in.Goals as goal

pub returns : goal.returns
unfolding head_in
returns c = grind (arith, common_steps)
