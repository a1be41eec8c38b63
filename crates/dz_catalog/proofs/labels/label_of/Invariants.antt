use Rattle.std.proofs.Common.{◌≡◌, length}
use Rattle.dz_catalog.specs.inner.Labels.{label_of}
use Rattle.dz_catalog.proofs.labels.label_of.Given as goal

abbrev pub invariant-labels : goal.invariant-labels
invariant-labels l = label_of l.apex l.rest ≡ label_of l.apex l.name

abbrev pub decreases-labels : goal.decreases-labels
decreases-labels l = length l.rest
