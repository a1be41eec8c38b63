use Rattle.std.proofs.Common.{rules}
use Rattle.dz_store.specs.Payload.{whole_name}
use Rattle.dz_store.proofs.head.whole_name.Goals as goal

pub returns-in-None : goal.returns-in-None
unfolding whole_name
returns-in-None c = search rules

pub returns-then-eq : goal.returns-then-eq
unfolding whole_name
returns-then-eq c = search rules

pub returns-else-eq : goal.returns-else-eq
unfolding whole_name
returns-else-eq c = search rules
