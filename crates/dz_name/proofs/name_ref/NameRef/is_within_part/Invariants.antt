use Rattle.std.proofs.Common.{drop, length}
use Rattle.dz_name.proofs.WithinLemmas.{IsLeft}
use Rattle.dz_name.proofs.name_ref.NameRef.is_within_part.Given as goal

abbrev pub invariant-labels : goal.invariant-labels
invariant-labels l = IsLeft l.self (drop l.skip l.above) l.rest

abbrev pub decreases-labels : goal.decreases-labels
decreases-labels l = length l.rest
