use Rattle.std.proofs.Common.{arith}
use Rattle.std.proofs.lemmas.Grind.{common_steps}
use Rattle.dz_gen.specs.Summary.{tally}
use Rattle.dz_gen.proofs.summary.put_tally.Goals as goal

pub returns : goal.returns
unfolding tally
returns c = grind (arith, common_steps)
