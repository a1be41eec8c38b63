use Rattle.std.proofs.Common.{◌≡◌, sym, ◌∙◌, ap}
use Rattle.std.proofs.lemmas.Result.{IfOk-weaker}
use Rattle.dz_take.specs.Transfer.{new}
use Rattle.dz_history.specs.After.{counted, taken, catalog_after, member_after, aftermath_of, catalog_aftermath}
use Rattle.dz_history.proofs.StateLemmas.{slot_there, taken_catalog, taken_member, new_member, aftermath_catalog}
use Rattle.dz_history.proofs.StateLemmas.{aftermath_member}
use Rattle.dz_history.proofs.holdings.Holdings.take_version.Goals as goal

pub with_slot-requires : goal.with_slot-requires
with_slot-requires c =
    let none = rw c.deref.ensures at c.in-None.ensures in
    rw c.in_ok-slot-in-None.ensures (rw (← c.self.view_is)
    (slot_there _ c.args.zone.now c.self.invariant.state none (rw (← c.self.view_is) at c.requires.assigned)))

pub returns-in-Some-clause-state : goal.returns-in-Some-clause-state
returns-in-Some-clause-state c =
    let number = rw c.deref.ensures at c.in-Some.ensures in
    let is : taken c.args.self.now c.args.zone.now c.args.moment (new c.args.version.now.value)
    ≡ counted (catalog_after c.args.self.now c.in-Some.number c.args.zone.now (new c.args.version.now.value)) =
    rw (← c.self.view_is)
    (taken_catalog _ c.args.zone.now c.args.moment c.in-Some.number (new c.args.version.now.value) number) in
    IfOk-weaker c.take_catalog.result _ _
    (λ r e. rw c.in_ok-version.ensures at e ∙ sym is) c.take_catalog.ensures.state

pub returns-in-Some-clause-aftermath : goal.returns-in-Some-clause-aftermath
returns-in-Some-clause-aftermath c =
    let number = rw c.deref.ensures at c.in-Some.ensures in
    let is : aftermath_of c.args.self.now c.args.zone.now (new c.args.version.now.value)
    ≡ catalog_aftermath c.args.self.now c.args.zone.now (new c.args.version.now.value) =
    rw (← c.self.view_is)
    (aftermath_catalog _ c.args.zone.now c.in-Some.number (new c.args.version.now.value) number) in
    IfOk-weaker c.take_catalog.result _ _
    (λ r e. rw c.in_ok-version.ensures at e ∙ sym is) c.take_catalog.ensures.aftermath

pub returns-in_ok-with_slot-in-None-clause-state : goal.returns-in_ok-with_slot-in-None-clause-state
returns-in_ok-with_slot-in-None-clause-state c =
    let none = rw c.deref.ensures at c.in-None.ensures in
    let is : taken c.args.self.now c.args.zone.now c.args.moment (new c.args.version.now.value)
    ≡ counted (member_after c.args.self.now c.args.zone.now c.args.moment (new c.args.version.now.value)) =
    rw (← c.self.view_is) (taken_member _ c.args.zone.now c.args.moment (new c.args.version.now.value) none) in
    c.counted.ensures
    ∙ (ap counted (rw (c.in_ok-slot-in-None.ensures, c.in_ok-version.ensures) at c.in_ok-with_slot-in-None.ensures
    ∙ sym (new_member c.args.self.now c.args.zone.now c.args.moment c.args.version.now.value)) ∙ sym is)

pub returns-in_ok-with_slot-in-None-clause-aftermath : goal.returns-in_ok-with_slot-in-None-clause-aftermath
returns-in_ok-with_slot-in-None-clause-aftermath c =
    rw (← c.self.view_is) (sym
    (aftermath_member _ c.args.zone.now (new c.args.version.now.value) (rw c.deref.ensures at c.in-None.ensures)))
