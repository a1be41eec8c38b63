use Rattle.std.proofs.Common.{◌∙◌, ap, sym}
use Rattle.dz_produce.specs.Producing.{Making}
use Rattle.dz_produce.proofs.MakingLemmas.{begun_sound, begun_bad, begun_good}
use Rattle.dz_produce.proofs.making.Making.change.Goals as goal

pub invariant_of-self : goal.invariant_of-self
invariant_of-self c =
    let begins = rw c.in-Some.is at c.in_ok-change_of.ensures in
    let at = c.in_ok-version.ensures.apex ∙ sym (ap (λ (m : Making). m.apex) c.self.view_is) in
    record {
      sound = begun_sound c.args.self.now c.self.inside.apex c.args.serial c.in_ok-version.field-0.version
          c.in-Some.change c.clear.new.self.items at begins c.clear.ensures.items;
      drafted = λ x e. absurd (cc);
    }

pub returns-in-None-clause-good : goal.returns-in-None-clause-good
returns-in-None-clause-good c =
    let bad = rw c.in-None.is at c.in_ok-change_of.ensures in
    begun_bad c.args.self.now c.args.serial c.in_ok-version.field-0.version c.in_ok-version.ensures.made.version_is bad

pub returns-in-Some-clause-good : goal.returns-in-Some-clause-good
returns-in-Some-clause-good c =
    let begins = rw c.in-Some.is at c.in_ok-change_of.ensures in
    begun_good c.args.self.now c.args.serial c.in_ok-version.field-0.version c.in-Some.change
    c.in_ok-version.ensures.made.version_is begins
