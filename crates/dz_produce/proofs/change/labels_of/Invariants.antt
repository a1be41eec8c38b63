use Rattle.std.proofs.Common.{◌≡◌, List, ℕ, take}
use Rattle.std.specs.BTreeSet.{contains}
use Rattle.std.specs.List.{list_any}
use Rattle.dz_name.specs.Name.{label_order, same_label}
use Rattle.dz_produce.proofs.change.labels_of.Given as goal

abbrev pub invariant-nodes : goal.invariant-nodes
invariant-nodes l = (label : List ℕ)
    → contains label_order l.labels label ≡ list_any (λ n. same_label n.label label) (take l.node-index l.nodes)
