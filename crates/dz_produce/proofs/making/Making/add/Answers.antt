use Rattle.std.proofs.Common.{◌∙◌, refl}
use Rattle.dz_produce.specs.inner.Makings.{making_of}
use Rattle.dz_produce.proofs.MakingLemmas.{judged_fine, judged_unsure, judged_faulty}
use Rattle.dz_produce.proofs.making.Making.add.Goals as goal

pub push-requires-clause-held : goal.push-requires-clause-held
push-requires-clause-held c =
    let m = making_of c.self.inside.apex c.self.inside.serial c.self.inside.change c.self.inside.added.items in
    let drafted = rw (← c.self.view_is ∙ c.take_draft.ensures.same) at c.in_ok-draft.ensures.drafted in
    let judged = rw c.in-Fine.is at c.in_ok-add.ensures in
    (judged_fine m c.args.node c.in_ok-draft.draft c.add.new.self c.self.invariant.sound drafted judged).0

pub push-requires-clause-faultless : goal.push-requires-clause-faultless
push-requires-clause-faultless c =
    let m = making_of c.self.inside.apex c.self.inside.serial c.self.inside.change c.self.inside.added.items in
    let drafted = rw (← c.self.view_is ∙ c.take_draft.ensures.same) at c.in_ok-draft.ensures.drafted in
    let judged = rw c.in-Fine.is at c.in_ok-add.ensures in
    let told = judged_fine m c.args.node c.in_ok-draft.draft c.add.new.self c.self.invariant.sound drafted judged in
    rw (← c.self.view_is) told.1

pub push-requires-clause-drafted : goal.push-requires-clause-drafted
push-requires-clause-drafted c =
    let m = making_of c.self.inside.apex c.self.inside.serial c.self.inside.change c.self.inside.added.items in
    let drafted = rw (← c.self.view_is ∙ c.take_draft.ensures.same) at c.in_ok-draft.ensures.drafted in
    let judged = rw c.in-Fine.is at c.in_ok-add.ensures in
    let told = judged_fine m c.args.node c.in_ok-draft.draft c.add.new.self c.self.invariant.sound drafted judged in
    rw (← c.self.view_is) told.2

pub push_or_pop-requires-clause-held : goal.push_or_pop-requires-clause-held
push_or_pop-requires-clause-held c =
    let m = making_of c.self.inside.apex c.self.inside.serial c.self.inside.change c.self.inside.added.items in
    let drafted = rw (← c.self.view_is ∙ c.take_draft.ensures.same) at c.in_ok-draft.ensures.drafted in
    let judged = rw c.in-Unsure.is at c.in_ok-add.ensures in
    (judged_unsure m c.args.node c.in_ok-draft.draft c.add.new.self c.self.invariant.sound drafted judged).0

pub push_or_pop-requires-clause-drafted : goal.push_or_pop-requires-clause-drafted
push_or_pop-requires-clause-drafted c =
    let m = making_of c.self.inside.apex c.self.inside.serial c.self.inside.change c.self.inside.added.items in
    let drafted = rw (← c.self.view_is ∙ c.take_draft.ensures.same) at c.in_ok-draft.ensures.drafted in
    let judged = rw c.in-Unsure.is at c.in_ok-add.ensures in
    let told = judged_unsure m c.args.node c.in_ok-draft.draft c.add.new.self c.self.invariant.sound drafted judged in
    rw (← c.self.view_is) told.1

pub returns-in-Faulty-clause-good : goal.returns-in-Faulty-clause-good
returns-in-Faulty-clause-good c =
    let m = making_of c.self.inside.apex c.self.inside.serial c.self.inside.change c.self.inside.added.items in
    let same = c.self.view_is ∙ c.take_draft.ensures.same in
    let drafted = rw (← same) at c.in_ok-draft.ensures.drafted in
    let judged = rw c.in-Faulty.is at c.in_ok-add.ensures in
    let told = judged_faulty m c.args.node c.in_ok-draft.draft c.add.new.self c.self.invariant.sound drafted judged in
    rw (← same, told) refl

pub returns-in_ok-push-in-Fine-clause-good : goal.returns-in_ok-push-in-Fine-clause-good
returns-in_ok-push-in-Fine-clause-good c =
    let m = making_of c.self.inside.apex c.self.inside.serial c.self.inside.change c.self.inside.added.items in
    let same = c.self.view_is ∙ c.take_draft.ensures.same in
    let drafted = rw (← same) at c.in_ok-draft.ensures.drafted in
    let judged = rw c.in-Fine.is at c.in_ok-add.ensures in
    let told = judged_fine m c.args.node c.in_ok-draft.draft c.add.new.self c.self.invariant.sound drafted judged in
    rw (← same, told.1) refl
