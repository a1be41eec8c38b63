use Rattle.std.proofs.Common.{rules}
use Rattle.dz_tsig.specs.Numbers.{six}
use Rattle.dz_tsig.proofs.tsig.six.Goals as goal

pub returns : goal.returns
unfolding six
returns c = search rules
