use Rattle.std.proofs.Common.{◌≡◌, drop, take}
use Rattle.std.specs.List.{All, list_any}
use Rattle.dz_name.specs.Name.{IsLabel}
use Rattle.dz_producer.specs.Faults.{is_long}
use Rattle.dz_producer.specs.Records.{node_records}
use Rattle.dz_producer.proofs.refused.some_node_long.Given as goal

abbrev pub invariant-nodes : goal.invariant-nodes
invariant-nodes l = record {
  long : list_any (λ b. list_any (λ r. is_long r.owner) (node_records l.apex b.now)) (drop l.node-index l.nodes)
      ≡ list_any (λ b. list_any (λ r. is_long r.owner) (node_records l.apex b.now)) l.nodes;
  labels : All (λ b. IsLabel b.now.label) (take l.node-index l.nodes);
}
