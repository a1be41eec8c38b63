use Rattle.std.proofs.Common.{◌<◌, ◌≤◌, ◌-◌, length}
use Rattle.dz_runs.specs.Counted.{TakesSearches}
use Rattle.dz_lookup.proofs.Barriers.{IsClear}
use Rattle.dz_lookup.proofs.found.barrier_below.Given as goal

-- no barrier is at or above the name without its first labels, and each label took a search at most
abbrev pub invariant-labels : goal.invariant-labels
invariant-labels g l = record {
  some : 0 < l.skip;
  within : l.skip ≤ l.labels;
  clear : IsClear l.version.apex l.version.records l.name l.skip;
  counted : l.fn.steps ≤ l.steps;
  cost : TakesSearches (l.labels - l.skip) (length l.version.records) (l.steps - l.fn.steps);
}

abbrev pub decreases-labels : goal.decreases-labels
decreases-labels g l = l.skip
