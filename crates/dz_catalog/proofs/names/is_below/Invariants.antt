use Rattle.std.proofs.Common.{◌≡◌, length}
use Rattle.dz_name.specs.Name.{is_within}
use Rattle.dz_catalog.proofs.names.is_below.Given as goal

abbrev pub invariant-labels : goal.invariant-labels
invariant-labels l = is_within l.rest l.above ≡ is_within l.name l.above

abbrev pub decreases-labels : goal.decreases-labels
decreases-labels l = length l.rest
