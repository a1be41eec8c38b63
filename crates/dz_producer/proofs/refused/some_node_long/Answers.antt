use Rattle.std.specs.Borrow.{Bor}
use Rattle.std.specs.List.{list_any}
use Rattle.dz_name.specs.Name.{IsLabel}
use Rattle.dz_producer.specs.Faults.{is_long}
use Rattle.dz_producer.specs.Records.{node_records}
use Rattle.std.proofs.Common.{sym, ◌∙◌}
use Rattle.dz_member.specs.declared.listing.Node.{Node}
use Rattle.dz_producer.proofs.NodeLemmas.{any_on, all_on, all_end}
use Rattle.dz_producer.proofs.refused.some_node_long.Goals as goal

pub returns-clause-labels : goal.returns-clause-labels
returns-clause-labels c none = all_end (λ (b : Bor Node). IsLabel b.now.label) c.args.nodes.now c.nodes.node-index
    c.nodes.invariant.labels c.nodes-test.false

pub nodes-preserved : goal.nodes-preserved
nodes-preserved c = record {
  long = any_on (λ (b : Bor Node). list_any (λ r. is_long r.owner) (node_records c.args.apex.now b.now))
      c.args.nodes.now c.nodes.node-index c.node-item.result c.nodes-test.true c.node-item.is
      (sym c.is_node_long.ensures.long ∙ c.if-is_node_long.false) c.nodes.invariant.long;
  labels = all_on (λ (b : Bor Node). IsLabel b.now.label) c.args.nodes.now c.nodes.node-index c.node-item.result
      c.nodes.invariant.labels c.nodes-test.true c.node-item.is c.is_node_long.ensures.label;
}
