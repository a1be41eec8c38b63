use Rattle.std.proofs.Common.{◌≡◌, take}
use Rattle.dz_producer.specs.inner.Nodes.{values}
use Rattle.dz_producer.proofs.produced.references.Given as goal

abbrev pub invariant-nodes : goal.invariant-nodes
invariant-nodes l = values l.all.items ≡ take l.node-index l.nodes
