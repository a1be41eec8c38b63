use Rattle.std.proofs.Common.{rules}
use Rattle.dz_zone.specs.Valid.{both_are}
use Rattle.dz_catalog.proofs.broken.both_point.Goals as goal

pub returns-then-kind-eq-TYPE_PTR-2 : goal.returns-then-kind-eq-TYPE_PTR-2
unfolding both_are
returns-then-kind-eq-TYPE_PTR-2 c = search rules

pub returns-else-kind-eq-TYPE_PTR-2 : goal.returns-else-kind-eq-TYPE_PTR-2
unfolding both_are
returns-else-kind-eq-TYPE_PTR-2 c = search rules
