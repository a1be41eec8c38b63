use Rattle.std.proofs.Common.{◌≡◌, ◌++◌, drop, take}
use Rattle.std.specs.List.{All, flat_map}
use Rattle.dz_producer.specs.Records.{node_records}
use Rattle.dz_producer.specs.inner.Nodes.{IsLed}
use Rattle.dz_producer.proofs.produced.put_nodes.Given as goal

abbrev pub invariant-nodes : goal.invariant-nodes
invariant-nodes l = record {
  records : l.out.items ++ flat_map (λ b. node_records l.apex b.now) (drop l.node-index l.nodes)
      ≡ l.fn.out.items ++ flat_map (λ b. node_records l.apex b.now) l.nodes;
  led : All (λ b. IsLed b.now) (take l.node-index l.nodes);
}
