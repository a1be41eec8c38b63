use Rattle.std.proofs.Common.{rules}
use Rattle.dz_store.specs.Kept.{number_of_eight}
use Rattle.dz_store.proofs.head.number_of_eight.Goals as goal

pub returns : goal.returns
unfolding number_of_eight
returns c = search rules
