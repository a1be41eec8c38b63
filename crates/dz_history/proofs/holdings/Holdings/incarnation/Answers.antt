use Rattle.std.proofs.Common.{sym, ◌∙◌, ap, Some}
use Rattle.std.specs.Option.{option_map}
use Rattle.dz_history.proofs.StateLemmas.{incarnation_catalog, incarnation_member}
use Rattle.dz_history.proofs.holdings.Holdings.incarnation.Goals as goal

pub returns-in-Some : goal.returns-in-Some
returns-in-Some c = rw (← c.self.view_is)
    (sym (incarnation_catalog _ c.args.zone.now c.in-Some.field-0 (rw c.deref.ensures at c.in-Some.ensures)))

pub returns-in-Some-find : goal.returns-in-Some-find
returns-in-Some-find c =
    rw (← c.self.view_is)
    (ap Some c.incarnation.ensures
    ∙ (ap (option_map (λ m. m.incarnation)) (rw c.deref-in-None.ensures at c.in-Some-find.ensures)
    ∙ sym (incarnation_member _ c.args.zone.now (rw c.deref.ensures at c.in-None.ensures))))

pub returns-in-None-find : goal.returns-in-None-find
returns-in-None-find c =
    rw (← c.self.view_is) (ap (option_map (λ m. m.incarnation)) (rw c.deref-in-None.ensures at c.in-None-find.ensures)
    ∙ sym (incarnation_member _ c.args.zone.now (rw c.deref.ensures at c.in-None.ensures)))
