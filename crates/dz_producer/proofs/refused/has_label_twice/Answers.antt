use Rattle.std.proofs.Common.{rules, refl, ◌∙◌, List, ℕ}
use Rattle.std.specs.Borrow.{Bor}
use Rattle.std.specs.BTreeSet.{contains}
use Rattle.dz_name.specs.Name.{label_order}
use Rattle.dz_member.specs.declared.listing.Node.{Node}
use Rattle.dz_producer.proofs.TwiceLemmas.{nothing_seen, seen_more, seen_again, seen_all}
use Rattle.dz_producer.proofs.NodeLemmas.{labels_twice}
use Rattle.dz_producer.proofs.refused.has_label_twice.Goals as goal

pub nodes-init : goal.nodes-init
nodes-init c = nothing_seen label_order (λ (q : List ℕ). q) (λ (x : Bor Node). x.now.label) _ (search rules)

pub nodes-preserved : goal.nodes-preserved
nodes-preserved c =
    seen_more label_order (λ (q : List ℕ). q) (λ (x : Bor Node). x.now.label)
    (contains label_order c.nodes.labels) _ c.args.nodes.now c.nodes.node-index c.node-item.result
    c.node-item.result.now.label c.in_ok-insert.field-0 c.nodes.invariant c.nodes-test.true c.node-item.is refl
    c.in_ok-insert.ensures.added c.if-not-branch.false c.in_ok-insert.ensures.updates.0

pub returns-then-not-branch : goal.returns-then-not-branch
returns-then-not-branch c =
    seen_again label_order (λ (q : List ℕ). q) (λ (x : Bor Node). x.now.label)
    (contains label_order c.nodes.labels) c.args.nodes.now c.nodes.node-index c.node-item.result
    c.node-item.result.now.label c.in_ok-insert.field-0 c.nodes.invariant c.nodes-test.true c.node-item.is refl
    c.in_ok-insert.ensures.added c.if-not-branch.true
    ∙ labels_twice c.args.nodes.now

pub returns : goal.returns
returns c = seen_all label_order (λ (q : List ℕ). q) (λ (x : Bor Node). x.now.label)
    (contains label_order c.nodes.labels) c.args.nodes.now c.nodes.node-index c.nodes.invariant c.nodes-test.false
    ∙ labels_twice c.args.nodes.now
