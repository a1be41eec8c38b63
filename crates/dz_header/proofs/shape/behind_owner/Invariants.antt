use Rattle.std.proofs.Common.{◌≡◌, ◌+◌, ◌≤◌, length}
use Rattle.dz_header.specs.Shape.{behind_owner}
use Rattle.dz_header.proofs.shape.behind_owner.Given as goal

abbrev pub invariant-labels : goal.invariant-labels
invariant-labels g l = record {
  rest : behind_owner 0 l.rest ≡ behind_owner 0 l.octets;
  used : l.steps + length l.rest ≤ l.fn.steps + length l.octets;
  counted : l.fn.steps ≤ l.steps;
}

abbrev pub decreases-labels : goal.decreases-labels
decreases-labels g l = length l.rest
