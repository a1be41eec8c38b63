use Rattle.std.proofs.Common.{rules}
use Rattle.dz_zone.specs.Valid.{clash}
use Rattle.dz_zone.proofs.valid.clash.Goals as goal

pub returns-then-is_cname_and_other-2 : goal.returns-then-is_cname_and_other-2
unfolding clash
returns-then-is_cname_and_other-2 c = search rules

pub returns-else-is_cname_and_other-2 : goal.returns-else-is_cname_and_other-2
unfolding clash
returns-else-is_cname_and_other-2 c = search rules
