use Rattle.std.proofs.Common.{rules}
use Rattle.dz_name.specs.Numbers.{number_of_two}
use Rattle.dz_name.proofs.numbers.number_of_two.Goals as goal

pub returns : goal.returns
unfolding number_of_two
returns c = search rules
