use Rattle.std.proofs.Common.{rules}
use Rattle.dz_name.specs.Numbers.{four}
use Rattle.dz_name.proofs.numbers.four.Goals as goal

pub returns : goal.returns
unfolding four
returns c = search rules
