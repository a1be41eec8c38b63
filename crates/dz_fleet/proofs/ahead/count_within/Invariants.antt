use Rattle.std.proofs.Common.{◌≤◌, ◌-◌, length}
use Rattle.dz_fleet.specs.inner.Relisting.{count_before}
use Rattle.dz_fleet.proofs.ahead.count_within.Given as goal

abbrev pub invariant-search : goal.invariant-search
invariant-search l = record {
  low : l.low ≤ count_before l.zone l.fold.members;
  high : count_before l.zone l.fold.members ≤ l.high;
  within : l.high ≤ length l.fold.members;
}

abbrev pub decreases-search : goal.decreases-search
decreases-search l = l.high - l.low
