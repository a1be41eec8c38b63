use Rattle.std.proofs.Common.{rules}
use Rattle.dz_table.specs.Table.{closest_for}
use Rattle.dz_table.proofs.table.Table.closest.Goals as goal

pub returns-then-kind-ne-TYPE_DS-clause-value : goal.returns-then-kind-ne-TYPE_DS-clause-value
unfolding closest_for
returns-then-kind-ne-TYPE_DS-clause-value g c = search rules

pub returns-in-Some-clause-value : goal.returns-in-Some-clause-value
unfolding closest_for
returns-in-Some-clause-value g c = search rules

pub returns-in-None-clause-value : goal.returns-in-None-clause-value
unfolding closest_for
returns-in-None-clause-value g c = search rules
