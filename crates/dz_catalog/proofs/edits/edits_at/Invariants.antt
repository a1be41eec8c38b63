use Rattle.std.proofs.Common.{◌≡◌, ◌++◌, map, length}
use Rattle.std.specs.List.{AllByRecursion}
use Rattle.dz_catalog.specs.inner.Labels.{IsReadAt}
use Rattle.dz_catalog.proofs.edits.edits_at.Given as goal

abbrev pub invariant-labels : goal.invariant-labels
invariant-labels l = record {
  labels : map (λ e. e.label) l.edits.items ++ l.labels.keys ≡ l.initial.labels.keys;
  read : AllByRecursion (IsReadAt l.version.apex l.version.records) l.edits.items;
}

abbrev pub decreases-labels : goal.decreases-labels
decreases-labels l = length l.labels.keys
