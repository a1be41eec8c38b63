use Rattle.std.proofs.Common.{sym}
use Rattle.dz_member.proofs.EditedLemmas.{both_of, touched_none, touched_some}
use Rattle.dz_member.proofs.edits.with_zone.Goals as goal

pub returns-in-None : goal.returns-in-None
returns-in-None c zones h = touched_none c.args.fold.now zones c.args.touched c.args.zone.now h (sym c.in-None.ensures.is)

pub returns-in_ok-try_clone-in-Some : goal.returns-in_ok-try_clone-in-Some
returns-in_ok-try_clone-in-Some c zones h =
    both_of c.with.result _ _ _
    (λ r up each. touched_some c.args.fold.now zones c.args.touched r c.args.zone.now c.in_ok-try_clone-in-Some.field-0
    h (rw c.in_ok-try_clone-in-Some.ensures c.in-Some.ensures.is)
    (rw c.in_ok-try_clone-in-Some.ensures c.in-Some.ensures.numbered) up each)
    c.with.ensures.order c.with.ensures.each
