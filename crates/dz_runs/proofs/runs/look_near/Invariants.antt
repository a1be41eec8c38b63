use Rattle.std.proofs.Common.{◌+◌, ◌≤◌}
use Rattle.dz_runs.proofs.runs.look_near.Given as goal

-- a look for each owner that is passed
abbrev pub invariant-owners : goal.invariant-owners
invariant-owners g l = record {
  order : l.first ≤ l.behind;
  room : l.looks + l.behind ≤ l.fn.looks + l.most + l.first;
}

abbrev pub decreases-owners : goal.decreases-owners
decreases-owners g l = l.behind
