use Rattle.std.proofs.Common.{◌≡◌, take, List, ℕ}
use Rattle.std.specs.List.{list_any}
use Rattle.std.specs.BTreeSet.{contains}
use Rattle.dz_name.specs.Name.{label_order, same_label}
use Rattle.dz_producer.proofs.amended.labels_in.Given as goal

abbrev pub invariant-nodes : goal.invariant-nodes
invariant-nodes l = (label : List ℕ)
    → contains label_order l.labels label ≡ list_any (λ n. same_label n.label label) (take l.node-index l.nodes)
