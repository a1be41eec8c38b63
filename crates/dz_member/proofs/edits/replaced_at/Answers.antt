use Rattle.std.proofs.Common.{◌∙◌}
use Rattle.std.specs.Prelude.{if◌then◌else◌}
use Rattle.dz_name.specs.Name.{same_name}
use Rattle.dz_member.specs.inner.Edits.{membership_of}
use Rattle.dz_member.proofs.EditedLemmas.{both_of, replaced_more, replaced_some}
use Rattle.dz_member.proofs.edits.replaced_at.Goals as goal

pub returns-in-None : goal.returns-in-None
returns-in-None c before zones h = both_of c.without.result _ _ _
    (λ r up each. replaced_more before c.args.others.now c.args.members.now r zones c.args.zone.now h up
    (λ z. each z ∙ (λ i. if same_name c.args.zone.now z then c.in-None.ensures i
    else membership_of z c.args.members.now)))
    c.without.ensures.order c.without.ensures.each

pub returns-in_ok-try_clone-in-Some : goal.returns-in_ok-try_clone-in-Some
returns-in_ok-try_clone-in-Some c before zones h = both_of c.with.result _ _ _
    (λ r up each. replaced_more before c.args.others.now c.args.members.now r zones c.args.zone.now h up
    (replaced_some c.args.others.now c.args.members.now r c.args.zone.now c.in_ok-try_clone-in-Some.field-0
    (rw c.in_ok-try_clone-in-Some.ensures c.in-Some.ensures) each))
    c.with.ensures.order c.with.ensures.each
