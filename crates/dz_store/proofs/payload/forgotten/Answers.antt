use Rattle.std.proofs.Common.{rules}
use Rattle.dz_store.specs.Kept.{forgotten}
use Rattle.dz_store.proofs.payload.forgotten.Goals as goal

pub returns-clause-payload : goal.returns-clause-payload
unfolding forgotten
returns-clause-payload c = search rules
