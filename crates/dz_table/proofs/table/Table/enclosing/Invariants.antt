use Rattle.std.proofs.Common.{◌≡◌, ◌-◌, ◌≤◌, length}
use Rattle.dz_table.specs.Table.{closest, SearchesTake}
use Rattle.dz_table.specs.inner.Kept.{slots_of}
use Rattle.dz_table.proofs.table.Table.enclosing.Given as goal

-- the name that is asked for has the slot of the first one; each search took away a label at least
abbrev pub invariant-ancestors : goal.invariant-ancestors
invariant-ancestors g l = record {
  same : closest (slots_of l.self-inside.slots) l.asked ≡ closest (slots_of l.self-inside.slots) l.name;
  within : length l.asked ≤ length l.name;
  taken : SearchesTake (length l.self-inside.slots) (length l.name - length l.asked) (l.steps - l.fn.steps);
}

abbrev pub decreases-ancestors : goal.decreases-ancestors
decreases-ancestors g l = length l.asked
