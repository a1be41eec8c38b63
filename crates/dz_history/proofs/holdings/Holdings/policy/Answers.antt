use Rattle.std.proofs.Common.{sym, ◌∙◌, ap, Some}
use Rattle.std.specs.Option.{option_and_then}
use Rattle.dz_name.specs.Name.{same_name}
use Rattle.dz_member.specs.Membership.{policy_of}
use Rattle.dz_member.proofs.SearchLemmas.{place_missing}
use Rattle.dz_history.proofs.FindLemmas.{place_read}
use Rattle.dz_history.proofs.StateLemmas.{policy_catalog, policy_member}
use Rattle.dz_history.proofs.holdings.Holdings.policy.Goals as goal

pub returns-in-Some : goal.returns-in-Some
returns-in-Some c =
    rw (← c.self.view_is)
    (ap (λ s. Some s.policy) (rw c.deref-in-Some.ensures at c.settings.ensures.settings)
    ∙ sym (policy_catalog _ c.args.zone.now c.in-Some.number (rw c.deref.ensures at c.in-Some.ensures)))

pub returns-in-Some-place_of : goal.returns-in-Some-place_of
returns-in-Some-place_of c =
    let fold = c.self.inside.fold.value in
    rw (← c.self.view_is)
    (place_read (λ m. same_name m.zone c.args.zone.now)
    (policy_of fold.config) fold.members c.in-Some-place_of.place c.policy.result
    (rw c.deref-in-None.ensures at c.in-Some-place_of.ensures)
    (rw c.deref-in-Some-place_of.ensures at c.policy.ensures)
    ∙ sym (policy_member _ c.args.zone.now (rw c.deref.ensures at c.in-None.ensures)))

pub returns-in-None-place_of : goal.returns-in-None-place_of
returns-in-None-place_of c =
    let fold = c.self.inside.fold.value in
    rw (← c.self.view_is)
    (ap (option_and_then (policy_of fold.config)) (place_missing (λ m. same_name m.zone c.args.zone.now) fold.members
    (sym (rw c.deref-in-None.ensures at c.in-None-place_of.ensures)))
    ∙ sym (policy_member _ c.args.zone.now (rw c.deref.ensures at c.in-None.ensures)))
