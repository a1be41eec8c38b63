use Rattle.std.proofs.Common.{sym, ◌∙◌}
use Rattle.std.proofs.lemmas.Result.{IfOk-weaker}
use Rattle.dz_member.specs.Membership.{shown}
use Rattle.dz_history.proofs.SlotLemmas.{slot_same, slot_again, slot_new}
use Rattle.dz_history.proofs.table_after.slot_after.Goals as goal

pub returns-then-incarnation-membership-clause-slot : goal.returns-then-incarnation-membership-clause-slot
returns-then-incarnation-membership-clause-slot c =
    let m = shown c.args.before.now.fold.config c.args.membership.now in
    let found = rw (c.fold.ensures.fold, c.to_name-zone.ensures, c.as_ref.ensures) at c.in-Some.ensures.member in
    let same = slot_same c.args.before.now m c.in-Some.member found
    (sym c.incarnation.ensures ∙ c.if-incarnation-membership.true) in
    IfOk-weaker c.same_slot.result _ _ (λ x e. e ∙ sym same) (rw (c.requires, c.to_name-zone.ensures, c.as_ref.ensures) at c.same_slot.ensures.slot)

pub returns-else-incarnation-membership-clause-slot : goal.returns-else-incarnation-membership-clause-slot
returns-else-incarnation-membership-clause-slot c =
    let m = shown c.args.before.now.fold.config c.args.membership.now in
    let again = slot_again c.args.before.now m c.in-Some.member (rw (c.fold.ensures.fold, c.to_name-zone.ensures, c.as_ref.ensures) at c.in-Some.ensures.member)
    (λ e. c.if-incarnation-membership.false (c.incarnation.ensures ∙ e)) in
    IfOk-weaker c.fresh.result _ _ (λ x e. e ∙ sym again) (rw (c.to_name-zone.ensures, c.as_ref.ensures) at c.fresh.ensures)

pub returns-in-None-clause-slot : goal.returns-in-None-clause-slot
returns-in-None-clause-slot c =
    let none = slot_new c.args.before.now (shown c.args.before.now.fold.config c.args.membership.now)
    (rw (c.fold.ensures.fold, c.to_name-zone.ensures, c.as_ref.ensures) at c.in-None.ensures.member) in
    IfOk-weaker c.fresh-in-None.result _ _ (λ x e. e ∙ sym none) (rw (c.to_name-zone.ensures, c.as_ref.ensures) at c.fresh-in-None.ensures)
