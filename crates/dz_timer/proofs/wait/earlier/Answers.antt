use Rattle.std.proofs.Common.{rules}
use Rattle.dz_timer.specs.inner.Tournament.{earlier}
use Rattle.dz_timer.proofs.wait.earlier.Goals as goal

pub returns-then-b-a-3 : goal.returns-then-b-a-3
unfolding earlier
returns-then-b-a-3 c = search rules

pub returns-else-b-a-3 : goal.returns-else-b-a-3
unfolding earlier
returns-else-b-a-3 c = search rules
