use Rattle.std.proofs.Common.{◌∙◌, List, ℕ}
use Rattle.std.specs.Borrow.{Bor}
use Rattle.std.specs.BTreeSet.{contains}
use Rattle.std.specs.Cmp.Lexicographic.{slice_cmp}
use Rattle.std.specs.Ordering.{nat_cmp}
use Rattle.dz_producer.proofs.NodeLemmas.{texts_twice}
use Rattle.dz_producer.proofs.TwiceLemmas.{seen_more, seen_again, seen_all}
use Rattle.dz_producer.proofs.refused.has_text_twice.Goals as goal

pub texts-preserved : goal.texts-preserved
texts-preserved c =
    seen_more (slice_cmp nat_cmp) (λ (q : Bor (List ℕ)). q.now)
    (λ (x : List ℕ). x) (contains (λ (a b : Bor (List ℕ)). slice_cmp nat_cmp a.now b.now) c.texts.seen) _
    c.args.texts.now c.texts.text-index c.text-item.result c.as_slice.result c.in_ok-insert.field-0 c.texts.invariant
    c.texts-test.true c.text-item.is c.as_slice.ensures.octets
    c.in_ok-insert.ensures.added c.if-not-branch.false c.in_ok-insert.ensures.updates.0

pub returns-then-not-branch : goal.returns-then-not-branch
returns-then-not-branch c =
    seen_again (slice_cmp nat_cmp) (λ (q : Bor (List ℕ)). q.now)
    (λ (x : List ℕ). x) (contains (λ (a b : Bor (List ℕ)). slice_cmp nat_cmp a.now b.now) c.texts.seen)
    c.args.texts.now c.texts.text-index c.text-item.result c.as_slice.result c.in_ok-insert.field-0 c.texts.invariant
    c.texts-test.true c.text-item.is c.as_slice.ensures.octets
    c.in_ok-insert.ensures.added c.if-not-branch.true
    ∙ texts_twice c.args.texts.now

pub returns : goal.returns
returns c = seen_all (slice_cmp nat_cmp) (λ (q : Bor (List ℕ)). q.now)
    (λ (x : List ℕ). x) (contains (λ (a b : Bor (List ℕ)). slice_cmp nat_cmp a.now b.now) c.texts.seen)
    c.args.texts.now c.texts.text-index c.texts.invariant c.texts-test.false ∙ texts_twice c.args.texts.now
