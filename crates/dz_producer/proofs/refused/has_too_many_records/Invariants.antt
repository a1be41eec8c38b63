use Rattle.std.proofs.Common.{◌≡◌, ◌+◌, ◌≤◌, take}
use Rattle.std.specs.Prelude.{sum_by}
use Rattle.dz_producer.specs.inner.Nodes.{record_count}
use Rattle.dz_producer.proofs.refused.has_too_many_records.Given as goal

abbrev pub invariant-nodes : goal.invariant-nodes
invariant-nodes l = record {
  counted : l.count ≡ 4 + sum_by (λ b. record_count b.now) (take l.node-index l.nodes);
  few : l.count ≤ 250000;
}
