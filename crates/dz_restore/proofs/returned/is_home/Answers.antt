use Rattle.std.proofs.Common.{rules}
use Rattle.dz_restore.specs.Restoring.{home_at}
use Rattle.dz_restore.proofs.returned.is_home.Goals as goal

pub returns-then-same : goal.returns-then-same
unfolding home_at
returns-then-same c = search rules

pub returns-else-same : goal.returns-else-same
unfolding home_at
returns-else-same c = search rules

pub returns-in-None : goal.returns-in-None
unfolding home_at
returns-in-None c = search rules

pub returns-then-same-2 : goal.returns-then-same-2
unfolding home_at
returns-then-same-2 c = search rules

pub returns-else-same-2 : goal.returns-else-same-2
unfolding home_at
returns-else-same-2 c = search rules
