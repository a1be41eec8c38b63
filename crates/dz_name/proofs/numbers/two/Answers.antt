use Rattle.std.proofs.Common.{rules}
use Rattle.dz_name.specs.Numbers.{two}
use Rattle.dz_name.proofs.numbers.two.Goals as goal

pub returns : goal.returns
unfolding two
returns c = search rules
