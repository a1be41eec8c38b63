use Rattle.std.proofs.Common.{sym, ◌∙◌, ap}
use Rattle.std.specs.Option.{option_and_then}
use Rattle.dz_history.proofs.StateLemmas.{held_member, held_is_own, version_there, slot_own, none_own}
use Rattle.dz_history.proofs.holdings.Holdings.held.Goals as goal

pub returns-in-Some-clause-held : goal.returns-in-Some-clause-held
returns-in-Some-clause-held c =
    rw (← c.self.view_is) (c.version.ensures ∙ (c.index.ensures ∙ version_there _ c.args.zone.now c.in-Some.number
    c.index.result.now c.self.invariant.state (rw c.deref.ensures at c.in-Some.ensures)))

pub returns-in-Some-clause-own : goal.returns-in-Some-clause-own
returns-in-Some-clause-own c = rw (← c.self.view_is)
    (held_is_own _ c.args.zone.now c.in-Some.number c.self.invariant.state (rw c.deref.ensures at c.in-Some.ensures))

pub returns-in-Some-get-clause-held : goal.returns-in-Some-get-clause-held
returns-in-Some-get-clause-held c =
    rw (← c.self.view_is)
    (c.shared_version.ensures.version
    ∙ (ap (option_and_then (λ slot. slot.version)) (rw c.deref-in-None.ensures at c.in-Some-get.ensures.slot)
    ∙ sym (held_member _ c.args.zone.now (rw c.deref.ensures at c.in-None.ensures))))

pub returns-in-Some-get-clause-own : goal.returns-in-Some-get-clause-own
returns-in-Some-get-clause-own c =
    rw (← c.self.view_is)
    (slot_own _ c.args.zone.now c.in-Some-get.slot.now (rw c.deref.ensures at c.in-None.ensures)
    (rw c.deref-in-None.ensures at c.in-Some-get.ensures.slot) c.shared_version.ensures.valid)

pub returns-in-None-get-clause-held : goal.returns-in-None-get-clause-held
returns-in-None-get-clause-held c =
    rw (← c.self.view_is)
    (ap (option_and_then (λ slot. slot.version)) (rw c.deref-in-None.ensures at c.in-None-get.ensures.slot)
    ∙ sym (held_member _ c.args.zone.now (rw c.deref.ensures at c.in-None.ensures)))

pub returns-in-None-get-clause-own : goal.returns-in-None-get-clause-own
returns-in-None-get-clause-own c = rw (← c.self.view_is) (none_own _ c.args.zone.now
    (rw c.deref.ensures at c.in-None.ensures) (rw c.deref-in-None.ensures at c.in-None-get.ensures.slot))
