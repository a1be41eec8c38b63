use Rattle.std.proofs.Common.{◌≡◌, not, take}
use Rattle.std.specs.Prelude.{filter}
use Rattle.std.specs.BTreeSet.{contains}
use Rattle.dz_name.specs.Name.{label_order}
use Rattle.dz_producer.specs.inner.Nodes.{values}
use Rattle.dz_producer.proofs.amended.parted.Given as goal

abbrev pub invariant-nodes : goal.invariant-nodes
invariant-nodes l = record {
  gone : values l.gone.items ≡ filter (λ n. contains label_order l.labels n.label) (take l.node-index l.nodes);
  kept : values l.kept.items ≡ filter (λ n. not (contains label_order l.labels n.label)) (take l.node-index l.nodes);
}
