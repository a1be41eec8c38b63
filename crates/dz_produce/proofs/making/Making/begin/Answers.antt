use Rattle.std.proofs.Common.{◌∙◌, sym, refl}
use Rattle.dz_produce.proofs.MakingLemmas.{not_false, not_true}
use Rattle.dz_produce.proofs.making.Making.begin.Goals as goal

pub invariant_of-result : goal.invariant_of-result
invariant_of-result c =
    let good = not_true (sym c.in_ok-is_producible.ensures ∙ c.if-not-branch.false) in
    rw c.new.ensures.items (record {
      sound = record { faultless = good; before = λ x e. absurd (cc); held = tt };
      drafted = λ x e. absurd (cc);
    })

pub returns-then-not-branch : goal.returns-then-not-branch
returns-then-not-branch c = not_false (sym c.in_ok-is_producible.ensures ∙ c.if-not-branch.true)

pub returns : goal.returns
returns c = rw c.new.ensures.items (refl, not_true (sym c.in_ok-is_producible.ensures ∙ c.if-not-branch.false))
