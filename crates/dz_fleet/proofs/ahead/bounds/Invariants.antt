use Rattle.std.proofs.Common.{◌≡◌, ◌≤◌, ◌-◌, length}
use Rattle.dz_fleet.specs.inner.Relisting.{count_before}
use Rattle.dz_fleet.proofs.ahead.bounds.Given as goal

abbrev pub invariant-steps : goal.invariant-steps
invariant-steps l = record {
  count : l.count ≡ length l.fold.members;
  upward : l.known ≤ l.low;
  low : l.low ≤ count_before l.zone l.fold.members;
}

abbrev pub decreases-steps : goal.decreases-steps
decreases-steps l = l.count - l.low
