use Rattle.std.proofs.Common.{◌≡◌, sym, ◌∙◌, ap}
use Rattle.std.proofs.lemmas.Result.{IfOk-weaker}
use Rattle.dz_history.specs.After.{counted, taken, catalog_after}
use Rattle.dz_history.proofs.StateLemmas.{taken_catalog, taken_member, same_catalog}
use Rattle.dz_take.specs.Transfer.{up_to_date}
use Rattle.dz_history.proofs.holdings.Holdings.refreshed.Goals as goal

pub returns-in_ok-share-in-Some : goal.returns-in_ok-share-in-Some
returns-in_ok-share-in-Some c =
    let s = c.args.self.now in
    let number = rw c.deref.ensures at c.in-Some.ensures in
    let is : taken s c.args.zone.now c.args.moment up_to_date
    ≡ counted (catalog_after s c.in-Some.field-0 c.args.zone.now up_to_date) =
    rw (← c.self.view_is) (taken_catalog _ c.args.zone.now c.args.moment c.in-Some.field-0 up_to_date number) in
    c.counted.ensures
    ∙ (ap counted (c.in_ok-share-in-Some.ensures ∙ sym (same_catalog s c.in-Some.field-0 c.args.zone.now)) ∙ sym is)

pub returns-in-None : goal.returns-in-None
returns-in-None c =
    IfOk-weaker c.member_refreshed.result _ _
    (λ h e. e ∙ sym (taken_member c.args.self.now c.args.zone.now c.args.moment up_to_date
    (rw (← c.self.view_is) (rw c.deref.ensures at c.in-None.ensures)))) c.member_refreshed.ensures
