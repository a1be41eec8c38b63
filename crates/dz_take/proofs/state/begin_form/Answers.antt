use Rattle.std.proofs.Common.{◌≡◌, ◌∙◌, ap, [], refl, sym}
use Rattle.dz_take.proofs.KindLemmas.{form_first, form_gap, owner_is, none_first}
use Rattle.dz_take.proofs.state.begin_form.Goals as goal

pub feed_whole-requires-clause-apex : goal.feed_whole-requires-clause-apex
feed_whole-requires-clause-apex c = ap (λ w. w.apex) c.in_ok-whole-in-None-differences_base.ensures.started
    ∙ owner_is c.args.transfer.now.apex c.args.first c.requires.soa

pub returns-in-None : goal.returns-in-None
returns-in-None c =
    let none : c.args.records.items ≡ [] =
    none_first c.args.records.items (rw c.deref.ensures.value at c.in-None.ensures.value) in
    rw none (form_first c.args.transfer.now c.args.first c.requires, refl, c.requires)

pub returns-then-not-leads_from : goal.returns-then-not-leads_from
returns-then-not-leads_from c =
    let base = c.in-Some-differences_base.ensures in
    let there = rw c.deref.ensures.value at c.in-Some.ensures.value in
    rw c.serial_gap.ensures
    (form_gap c.args.transfer.now c.in-Some-differences_base.version.now.value c.args.first
    c.in-Some.second.now c.args.records.items c.requires base.0 base.1 base.2 there
    (rw c.deref-in-Some-differences_base.ensures at (sym c.if-not-leads_from.ensures)))
