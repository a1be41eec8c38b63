use Rattle.std.proofs.Common.{◌≡◌}
use Rattle.dz_table.proofs.ahead.Ahead.pass.Given as goal

abbrev pub invariant-slots : goal.invariant-slots
invariant-slots l = l.self ≡ l.initial.self
