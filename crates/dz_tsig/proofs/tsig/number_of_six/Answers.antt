use Rattle.std.proofs.Common.{rules}
use Rattle.dz_tsig.specs.Numbers.{number_of_six}
use Rattle.dz_tsig.proofs.tsig.number_of_six.Goals as goal

pub returns : goal.returns
unfolding number_of_six
returns c = search rules
