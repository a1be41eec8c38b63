use Rattle.std.proofs.Common.{◌≡◌}
use Rattle.dz_table.specs.inner.Kept.{entries_of}
use Rattle.dz_table.proofs.shared_slot.entries_of.Given as goal

abbrev pub invariant-slots : goal.invariant-slots
invariant-slots l = l.entries.items ≡ entries_of l.yielded
