use Rattle.std.proofs.Common.{◌≡◌, replicate}
use Rattle.dz_timer.specs.Values.{fresh}
use Rattle.dz_fleet.proofs.fleet.beginning.Given as goal

abbrev pub invariant-zones : goal.invariant-zones
invariant-zones l = l.values.items ≡ replicate l._place fresh
