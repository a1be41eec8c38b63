use Rattle.std.proofs.Common.{rules}
use Rattle.dz_store.specs.Kept.{eight}
use Rattle.dz_store.proofs.payload.eight.Goals as goal

pub returns : goal.returns
unfolding eight
returns c = search rules
