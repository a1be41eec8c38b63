use Rattle.std.proofs.Common.{rules, ◌∙◌, List, ℕ}
use Rattle.std.specs.Borrow.{Bor}
use Rattle.std.specs.BTreeSet.{contains}
use Rattle.dz_name.specs.Name.{canonical_order}
use Rattle.dz_member.specs.declared.listing.Node.{Node}
use Rattle.dz_producer.proofs.TwiceLemmas.{nothing_seen, seen_more, seen_again, seen_all}
use Rattle.dz_producer.proofs.NodeLemmas.{zones_twice}
use Rattle.dz_producer.proofs.refused.has_zone_twice.Goals as goal

pub nodes-init : goal.nodes-init
nodes-init c = nothing_seen canonical_order (λ (q : List (List ℕ)). q) (λ (x : Bor Node). x.now.zone) _ (search rules)

pub nodes-preserved : goal.nodes-preserved
nodes-preserved c =
    seen_more canonical_order (λ (q : List (List ℕ)). q) (λ (x : Bor Node). x.now.zone)
    (contains canonical_order c.nodes.zones) _ c.args.nodes.now c.nodes.node-index c.node-item.result
    c.to_name.result c.in_ok-insert.field-0 c.nodes.invariant c.nodes-test.true c.node-item.is
    (c.to_name.ensures ∙ c.as_ref.ensures)
    c.in_ok-insert.ensures.added c.if-not-branch.false c.in_ok-insert.ensures.updates.0

pub returns-then-not-branch : goal.returns-then-not-branch
returns-then-not-branch c =
    seen_again canonical_order (λ (q : List (List ℕ)). q) (λ (x : Bor Node). x.now.zone)
    (contains canonical_order c.nodes.zones) c.args.nodes.now c.nodes.node-index c.node-item.result c.to_name.result
    c.in_ok-insert.field-0 c.nodes.invariant c.nodes-test.true c.node-item.is (c.to_name.ensures ∙ c.as_ref.ensures)
    c.in_ok-insert.ensures.added c.if-not-branch.true
    ∙ zones_twice c.args.nodes.now

pub returns : goal.returns
returns c = seen_all canonical_order (λ (q : List (List ℕ)). q) (λ (x : Bor Node). x.now.zone)
    (contains canonical_order c.nodes.zones) c.args.nodes.now c.nodes.node-index c.nodes.invariant c.nodes-test.false
    ∙ zones_twice c.args.nodes.now
