use Rattle.std.proofs.Common.{rules}
use Rattle.dz_member.specs.Process.{judged}
use Rattle.dz_member.proofs.judge.judge.Goals as goal

pub returns-in-None-held-clause-is : goal.returns-in-None-held-clause-is
unfolding judged
returns-in-None-held-clause-is c = search rules

pub returns-in-Some-held-clause-is : goal.returns-in-Some-held-clause-is
unfolding judged
returns-in-Some-held-clause-is c = search rules

pub returns-then-is_catalog-clause-is : goal.returns-then-is_catalog-clause-is
unfolding judged
returns-then-is_catalog-clause-is c = search rules

pub returns-else-is_catalog-clause-is : goal.returns-else-is_catalog-clause-is
unfolding judged
returns-else-is_catalog-clause-is c = search rules
