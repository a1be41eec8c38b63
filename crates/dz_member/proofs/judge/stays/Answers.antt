use Rattle.std.proofs.Common.{rules}
use Rattle.dz_member.specs.Process.{judged}
use Rattle.dz_member.proofs.judge.stays.Goals as goal

pub returns-then-not-is_catalog : goal.returns-then-not-is_catalog
unfolding judged
returns-then-not-is_catalog c = search rules
