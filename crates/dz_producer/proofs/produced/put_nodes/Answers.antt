use Rattle.std.specs.Borrow.{Bor}
use Rattle.dz_producer.specs.inner.Nodes.{IsLed}
use Rattle.dz_producer.proofs.NodeLemmas.{all_on, all_end, put_more}
use Rattle.std.specs.List.{list_any}
use Rattle.dz_member.specs.declared.listing.Node.{Node}
use Rattle.dz_producer.specs.Faults.{has_bad_group, is_long}
use Rattle.dz_producer.specs.Records.{node_records}
use Rattle.dz_producer.proofs.MakingLemmas.{item_fails, good_groups}
use Rattle.dz_producer.proofs.produced.put_nodes.Goals as goal

pub put_node-requires-clause-groups : goal.put_node-requires-clause-groups
put_node-requires-clause-groups c =
    good_groups c.node-item.result.now (item_fails (λ (b : Bor Node). has_bad_group b.now) c.args.nodes.now
    c.nodes.node-index c.node-item.result c.requires.groups c.nodes-test.true c.node-item.is)

pub put_node-requires-clause-short : goal.put_node-requires-clause-short
put_node-requires-clause-short c =
    item_fails (λ (b : Bor Node). list_any (λ r. is_long r.owner) (node_records c.args.apex.now b.now))
    c.args.nodes.now c.nodes.node-index c.node-item.result c.requires.short c.nodes-test.true c.node-item.is

pub returns-clause-led : goal.returns-clause-led
returns-clause-led c = all_end
    (λ (b : Bor Node). IsLed b.now) c.args.nodes.now c.nodes.node-index c.nodes.invariant.led c.nodes-test.false

pub nodes-preserved : goal.nodes-preserved
nodes-preserved c = record {
  records = put_more (λ (b : Bor Node). node_records c.args.apex.now b.now) c.args.nodes.now c.nodes.node-index
      c.node-item.result c.nodes.out.items c.put_node.new.out.items _ c.nodes-test.true c.node-item.is
      c.nodes.invariant.records c.in_ok-put_node.ensures.records;
  led = all_on (λ (b : Bor Node). IsLed b.now) c.args.nodes.now c.nodes.node-index c.node-item.result
      c.nodes.invariant.led c.nodes-test.true c.node-item.is c.in_ok-put_node.ensures.led;
}
