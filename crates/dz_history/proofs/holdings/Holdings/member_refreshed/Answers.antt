use Rattle.std.proofs.Common.{refl, sym, ◌∙◌, ap}
use Rattle.dz_history.specs.After.{counted}
use Rattle.dz_history.proofs.StateLemmas.{slot_own_zone, same_member_none, same_member_some}
use Rattle.dz_history.proofs.holdings.Holdings.member_refreshed.Goals as goal

pub with_slot-requires : goal.with_slot-requires
with_slot-requires c =
    let found = rw c.deref.ensures at c.in-Some.ensures.slot in
    rw (← c.self.view_is)
    (rw (c.in_ok-slot-in-Some.ensures, slot_own_zone c.args.zone.now _ c.in-Some.slot.now found) refl)

pub returns-in_ok-share-in-None : goal.returns-in_ok-share-in-None
returns-in_ok-share-in-None c =
    let none = rw c.deref.ensures at c.in-None.ensures.slot in
    c.counted.ensures ∙ ap counted (c.in_ok-share-in-None.ensures
    ∙ rw (← c.self.view_is) (sym (same_member_none _ c.args.zone.now c.args.moment none)))

pub returns-in_ok-with_slot-in-Some : goal.returns-in_ok-with_slot-in-Some
returns-in_ok-with_slot-in-Some c =
    let found = rw c.deref.ensures at c.in-Some.ensures.slot in
    c.counted-in-Some.ensures
    ∙ ap counted (rw c.in_ok-slot-in-Some.ensures at c.in_ok-with_slot-in-Some.ensures
    ∙ rw (← c.self.view_is) (sym (same_member_some _ c.args.zone.now c.args.moment c.in-Some.slot.now found)))
