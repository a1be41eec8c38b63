use Rattle.std.proofs.Common.{◌≡◌}
use Rattle.std.specs.Prelude.{fold}
use Rattle.dz_history.specs.inner.Changed.{after_change}
use Rattle.dz_history.proofs.table_changed.table_changed.Given as goal

abbrev pub invariant-changes : goal.invariant-changes
invariant-changes l = l.table.value ≡ fold after_change l.before.value l.yielded
