use Rattle.std.proofs.Common.{rules}
use Rattle.dz_restore.specs.Restoring.{may_return}
use Rattle.dz_restore.proofs.returned.may_return.Goals as goal

pub returns-then-not-is_some : goal.returns-then-not-is_some
unfolding may_return
returns-then-not-is_some c = search rules

pub returns-else-not-is_some : goal.returns-else-not-is_some
unfolding may_return
returns-else-not-is_some c = search rules

pub returns-else-is_home : goal.returns-else-is_home
unfolding may_return
returns-else-is_home c = search rules
