use Rattle.std.proofs.Common.{◌≡◌, ◌≤◌, length}
use Rattle.dz_header.specs.Shape.{behind_owner}
use Rattle.dz_tsig.proofs.signature.behind_owner.Given as goal

abbrev pub invariant-labels : goal.invariant-labels
invariant-labels l = record {
  value : behind_owner 0 l.rest ≡ behind_owner 0 l.octets;
  within : length l.rest ≤ length l.octets;
}

abbrev pub decreases-labels : goal.decreases-labels
decreases-labels l = length l.rest
