use Rattle.std.proofs.Common.{sym, ◌∙◌, ap}
use Rattle.std.specs.Option.{option_and_then}
use Rattle.dz_name.specs.Name.{same_name}
use Rattle.dz_member.specs.Membership.{key_of}
use Rattle.dz_member.proofs.SearchLemmas.{place_missing}
use Rattle.dz_history.proofs.FindLemmas.{place_told}
use Rattle.dz_history.proofs.StateLemmas.{key_catalog, key_member, usable_as, usable_none}
use Rattle.dz_history.proofs.holdings.Holdings.key.Goals as goal

pub returns-in-Some-clause-key : goal.returns-in-Some-clause-key
returns-in-Some-clause-key c =
    rw (← c.self.view_is)
    (c.as_ref.ensures.value ∙ ap (λ s. s.key) (rw c.deref-in-Some.ensures at c.settings.ensures.settings)
    ∙ sym (key_catalog _ c.args.zone.now c.in-Some.number (rw c.deref.ensures at c.in-Some.ensures)))

pub returns-in-Some-clause-usable : goal.returns-in-Some-clause-usable
returns-in-Some-clause-usable c =
    rw (← c.self.view_is)
    (usable_as _ _ (key_catalog _ c.args.zone.now c.in-Some.number (rw c.deref.ensures at c.in-Some.ensures) ∙ sym
    (ap (λ s. s.key) (rw c.deref-in-Some.ensures at c.settings.ensures.settings))) c.settings.ensures.usable)

pub returns-in-Some-place_of-clause-key : goal.returns-in-Some-place_of-clause-key
returns-in-Some-place_of-clause-key c =
    let fold = c.self.inside.fold.value in
    rw (← c.self.view_is)
    (place_told (λ m. same_name m.zone c.args.zone.now) (key_of fold.config) fold.members c.in-Some-place_of.place _
    (rw c.deref-in-None.ensures at c.in-Some-place_of.ensures)
    (rw c.deref-in-Some-place_of.ensures at c.key.ensures.key)
    ∙ sym (key_member _ c.args.zone.now (rw c.deref.ensures at c.in-None.ensures)))

pub returns-in-Some-place_of-clause-usable : goal.returns-in-Some-place_of-clause-usable
returns-in-Some-place_of-clause-usable c =
    let fold = c.self.inside.fold.value in
    rw (← c.self.view_is)
    (usable_as _ _ (key_member _ c.args.zone.now (rw c.deref.ensures at c.in-None.ensures)
    ∙ sym
    (place_told (λ m. same_name m.zone c.args.zone.now) (key_of fold.config) fold.members c.in-Some-place_of.place _
    (rw c.deref-in-None.ensures at c.in-Some-place_of.ensures)
    (rw c.deref-in-Some-place_of.ensures at c.key.ensures.key)))
    c.key.ensures.usable)

pub returns-in-None-place_of-clause-key : goal.returns-in-None-place_of-clause-key
returns-in-None-place_of-clause-key c =
    let fold = c.self.inside.fold.value in
    rw (← c.self.view_is)
    (ap (option_and_then (key_of fold.config)) (place_missing (λ m. same_name m.zone c.args.zone.now) fold.members
    (sym (rw c.deref-in-None.ensures at c.in-None-place_of.ensures)))
    ∙ sym (key_member _ c.args.zone.now (rw c.deref.ensures at c.in-None.ensures)))

pub returns-in-None-place_of-clause-usable : goal.returns-in-None-place_of-clause-usable
returns-in-None-place_of-clause-usable c =
    let fold = c.self.inside.fold.value in
    rw (← c.self.view_is)
    (usable_none _ (key_member _ c.args.zone.now (rw c.deref.ensures at c.in-None.ensures)
    ∙ sym (ap (option_and_then (key_of fold.config)) (place_missing (λ m. same_name m.zone c.args.zone.now)
    fold.members (sym (rw c.deref-in-None.ensures at c.in-None-place_of.ensures))))))
