use Rattle.std.specs.BTreeSet.{contains}
use Rattle.dz_name.specs.Name.{label_order}
use Rattle.dz_produce.proofs.ChangeLemmas.{labels_more}
use Rattle.dz_produce.proofs.change.labels_of.Goals as goal

pub nodes-preserved : goal.nodes-preserved
nodes-preserved c =
    labels_more (contains label_order c.nodes.labels)
    (contains label_order c.insert.new.self) c.args.nodes.now c.nodes.node-index c.node-item.result c.nodes-test.true
    c.node-item.is c.nodes.invariant c.in_ok-insert.ensures.updates.0
