use Rattle.std.proofs.Common.{◌≡◌, length}
use Rattle.dz_index.specs.Rows.{compared}
use Rattle.dz_index.proofs.octets.compare_octets.Given as goal

abbrev pub invariant-groups : goal.invariant-groups
invariant-groups l = compared l.mine l.theirs ≡ compared l.left l.right

abbrev pub decreases-groups : goal.decreases-groups
decreases-groups l = length l.mine
