use Rattle.std.proofs.Common.{rules, arith}
use Rattle.std.proofs.lemmas.Grind.{common_steps}
use Rattle.dz_name.specs.Text.{items}
use Rattle.dz_name.proofs.text.escape.Goals as goal

pub returns-then-octet-lt256-clause-items : goal.returns-then-octet-lt256-clause-items
unfolding items
returns-then-octet-lt256-clause-items c = grind (arith, common_steps)

pub returns-else-octet-lt256-clause-items : goal.returns-else-octet-lt256-clause-items
unfolding items
returns-else-octet-lt256-clause-items c = search rules

pub returns-in-len1-up-clause-items : goal.returns-in-len1-up-clause-items
unfolding items
returns-in-len1-up-clause-items c = grind (arith, common_steps)

pub returns-in-empty-clause-items : goal.returns-in-empty-clause-items
unfolding items
returns-in-empty-clause-items c = search rules
