use Rattle.std.proofs.Common.{rules}
use Rattle.dz_catalog.specs.Broken.{twins}
use Rattle.dz_catalog.proofs.broken.coos_twin.Goals as goal

pub returns-then-both_point : goal.returns-then-both_point
unfolding twins
returns-then-both_point c = search rules

pub returns-else-both_point : goal.returns-else-both_point
unfolding twins
returns-else-both_point c = search rules
