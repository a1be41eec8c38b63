use Rattle.std.proofs.Common.{◌≡◌, ◌+◌, ◌≤◌, length, drop}
use Rattle.dz_name.specs.Name.{IsWithin}
use Rattle.dz_index.proofs.SharedLemmas.{Keep}
use Rattle.dz_index.proofs.shared.labels_apart.Given as goal

abbrev pub invariant-labels : goal.invariant-labels
invariant-labels l = record {
  near : l.near ≡ drop l.apart l.name;
  within : l.apart ≤ length l.name;
  far : IsWithin l.other l.far;
  keep : Keep l.name l.other l.near l.far;
}

abbrev pub decreases-labels : goal.decreases-labels
decreases-labels l = length l.near + length l.far
