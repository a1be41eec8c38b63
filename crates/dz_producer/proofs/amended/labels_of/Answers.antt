use Rattle.std.proofs.Common.{rules, refl, sym, ◌∙◌, List, ℕ}
use Rattle.std.specs.BTreeSet.{contains}
use Rattle.dz_name.specs.Name.{label_order}
use Rattle.dz_producer.proofs.AmendLemmas.{label_twice, labels_seen}
use Rattle.dz_producer.proofs.TwiceLemmas.{nothing_seen, seen_more, seen_again}
use Rattle.dz_producer.proofs.amended.labels_of.Goals as goal

pub labels-init : goal.labels-init
labels-init c = nothing_seen label_order (λ (q : List ℕ). q) (λ (x : List ℕ). x) _ (search rules)

pub labels-preserved : goal.labels-preserved
labels-preserved c =
    seen_more label_order (λ (q : List ℕ). q) (λ (x : List ℕ). x)
    (contains label_order c.labels.labels) _ c.args.dropped.now c.labels.label-index c.label-item.result
    c.label-item.result c.in_ok-insert.field-0 c.labels.invariant c.labels-test.true c.label-item.is refl
    c.in_ok-insert.ensures.added c.if-not-branch.false c.in_ok-insert.ensures.updates.0

pub returns-then-not-branch : goal.returns-then-not-branch
returns-then-not-branch c =
    sym
    (seen_again label_order (λ (q : List ℕ). q) (λ (x : List ℕ). x)
    (contains label_order c.labels.labels) c.args.dropped.now c.labels.label-index c.label-item.result
    c.label-item.result c.in_ok-insert.field-0 c.labels.invariant c.labels-test.true c.label-item.is refl
    c.in_ok-insert.ensures.added c.if-not-branch.true
    ∙ label_twice c.args.dropped.now)

pub returns : goal.returns
returns c = labels_seen c.args.dropped.now c.labels.label-index
    (contains label_order c.labels.labels) c.labels.invariant c.labels-test.false
