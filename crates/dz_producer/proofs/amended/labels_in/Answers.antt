use Rattle.std.proofs.Common.{rules, refl, ap, ◌∙◌}
use Rattle.std.specs.BTreeSet.{contains}
use Rattle.std.specs.List.{list_any}
use Rattle.std.proofs.lemmas.List.{take_all}
use Rattle.dz_name.specs.Name.{label_order, same_label}
use Rattle.dz_producer.proofs.AmendLemmas.{one_more}
use Rattle.dz_producer.proofs.amended.labels_in.Goals as goal

pub nodes-init : goal.nodes-init
nodes-init c = search rules

pub nodes-preserved : goal.nodes-preserved
nodes-preserved c =
    one_more (contains label_order c.nodes.labels) _ c.args.nodes.now c.nodes.node-index c.node-item.result
    c.node-item.result.label c.nodes.invariant c.nodes-test.true c.node-item.is refl c.in_ok-insert.ensures.updates.0

pub returns : goal.returns
returns c label = c.nodes.invariant label
    ∙ ap (list_any (λ n. same_label n.label label)) (take_all c.nodes.node-index c.args.nodes.now c.nodes-test.false)
