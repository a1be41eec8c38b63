use Rattle.std.proofs.Common.{rules}
use Rattle.dz_zone.specs.Valid.{both_are}
use Rattle.dz_zone.proofs.valid.both_are.Goals as goal

pub returns-then-kind-2 : goal.returns-then-kind-2
unfolding both_are
returns-then-kind-2 c = search rules

pub returns-else-kind-2 : goal.returns-else-kind-2
unfolding both_are
returns-else-kind-2 c = search rules
