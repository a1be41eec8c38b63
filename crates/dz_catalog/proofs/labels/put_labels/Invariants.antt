use Rattle.std.proofs.Common.{◌≡◌, ◌||◌, take, List, ℕ}
use Rattle.std.specs.List.{list_any}
use Rattle.std.specs.BTreeSet.{contains}
use Rattle.dz_name.specs.Name.{label_order, is_within}
use Rattle.dz_catalog.specs.inner.Labels.{node_name}
use Rattle.dz_catalog.proofs.labels.put_labels.Given as goal

abbrev pub invariant-records : goal.invariant-records
invariant-records l = (label : List ℕ) → contains label_order l.labels label
    ≡ (contains label_order l.initial.labels label
    || list_any (λ r. is_within r.now.owner (node_name l.apex label)) (take l.found-index l.records))
