use Rattle.std.proofs.Common.{◌+◌, ap, sym, ◌∙◌, arith, length}
use Rattle.std.specs.Prelude.{slice_set}
use Rattle.dz_fleet.specs.inner.Relisting.{RelistingOf, half_made}
use Rattle.dz_fleet.proofs.ReachLemmas.{goes_to}
use Rattle.dz_fleet.proofs.WriteLemmas.{noted, same_long, half_on, half_one, written_more}
use Rattle.dz_fleet.proofs.waiting.note.Goals as goal

pub count_before-left-requires-clause-known : goal.count_before-left-requires-clause-known
count_before-left-requires-clause-known c =
    let i = c.relisting.inside in
    let h = rw (← c.relisting.view_is) at c.requires.behind in
    let g = goes_to i.before.now.fold.members i.after.now.members c.args.changes.now c.args.place c.zone_at-zone.result
    c.args.known c.args.known c.zone_at-zone.ensures h in
    rw c.fold-fold.ensures.fold g.upward

pub carried_at-requires-clause-there : goal.carried_at-requires-clause-there
carried_at-requires-clause-there c =
    let i = c.relisting.inside in
    let h = rw (← c.relisting.view_is) at c.requires.behind in
    let zones = rw (← c.relisting.view_is) at c.requires.zones in
    let n = rw c.fold-fold.ensures.fold at c.count_before-left.ensures in
    let next = rw c.fold-fold.ensures.fold at c.next_place-next.ensures in
    let at = noted i.before.now.fold.members i.after.now.members c.args.changes.now c.args.place c.zone_at-zone.result
    c.args.known c.count_before-left.result c.next_place-next.result c.zone_at-zone.ensures h zones n next in
    let long = same_long i.before.now.fold.members i.after.now.members zones in
    rw (← c.relisting.view_is) (omega (arith, long, at.inside c.if-left-next.true))

pub carried_at-requires-clause-held : goal.carried_at-requires-clause-held
carried_at-requires-clause-held c =
    let i = c.relisting.inside in
    let h = rw (← c.relisting.view_is) at c.requires.behind in
    let zones = rw (← c.relisting.view_is) at c.requires.zones in
    let n = rw c.fold-fold.ensures.fold at c.count_before-left.ensures in
    let next = rw c.fold-fold.ensures.fold at c.next_place-next.ensures in
    let at = noted i.before.now.fold.members i.after.now.members c.args.changes.now c.args.place c.zone_at-zone.result
    c.args.known c.count_before-left.result c.next_place-next.result c.zone_at-zone.ensures h zones n next in
    rw (← c.relisting.view_is) (at.held c.if-left-next.true)

pub returns-in_ok-push-clause-behind : goal.returns-in_ok-push-clause-behind
returns-in_ok-push-clause-behind c =
    let i = c.relisting.inside in
    let h = rw (← c.relisting.view_is) at c.requires.behind in
    let zones = rw (← c.relisting.view_is) at c.requires.zones in
    let n = rw c.fold-fold.ensures.fold at c.count_before-left.ensures in
    let next = rw c.fold-fold.ensures.fold at c.next_place-next.ensures in
    let at = noted i.before.now.fold.members i.after.now.members c.args.changes.now c.args.place c.zone_at-zone.result
    c.args.known c.count_before-left.result c.next_place-next.result c.zone_at-zone.ensures h zones n next in
    rw (← c.relisting.view_is) at.behind

pub returns-in_ok-push-clause-values : goal.returns-in_ok-push-clause-values
returns-in_ok-push-clause-values c =
    let i = c.relisting.inside in
    let h = rw (← c.relisting.view_is) at c.requires.behind in
    let zones = rw (← c.relisting.view_is) at c.requires.zones in
    let n = rw c.fold-fold.ensures.fold at c.count_before-left.ensures in
    let next = rw c.fold-fold.ensures.fold at c.next_place-next.ensures in
    let at = noted i.before.now.fold.members i.after.now.members c.args.changes.now c.args.place c.zone_at-zone.result
    c.args.known c.count_before-left.result c.next_place-next.result c.zone_at-zone.ensures h zones n next in
    let k = ap length (rw c.fold-fold.ensures.fold at c.catalogs-catalogs.ensures.catalogs) in
    let was = rw (← c.relisting.view_is) at c.requires.values in
    let v = rw (← c.relisting.view_is) at c.carried_at.ensures in
    let on = half_on i.before.now i.schedule.now i.after.now.members c.fold-fold.ensures.state c.relisting.invariant
    c.args.known c.count_before-left.result at.upward at.same in
    let one = half_one i.before.now i.schedule.now i.after.now.members c.fold-fold.ensures.state c.relisting.invariant
    c.count_before-left.result c.carried_at.result v (at.inside c.if-left-next.true) in
    let more = at.one c.if-left-next.true in
    let r : RelistingOf =
    record { state = i.before.now; values = i.schedule.now; members = i.after.now.members } in
    rw (← c.relisting.view_is, c.in_ok-push.ensures.items, more)
    (written_more i.schedule.now c.args.pairs.now.items _ c.carried_at.result
    ∙ (ap (λ vs. slice_set vs (length c.catalogs-catalogs.result.now + c.count_before-left.result) c.carried_at.result)
    (was ∙ sym on)
    ∙ (ap (λ j. slice_set (half_made r c.count_before-left.result) (j + c.count_before-left.result)
    c.carried_at.result) k
    ∙ one)))

pub returns-else-left-next-clause-behind : goal.returns-else-left-next-clause-behind
returns-else-left-next-clause-behind c =
    let i = c.relisting.inside in
    let h = rw (← c.relisting.view_is) at c.requires.behind in
    let zones = rw (← c.relisting.view_is) at c.requires.zones in
    let n = rw c.fold-fold.ensures.fold at c.count_before-left.ensures in
    let next = rw c.fold-fold.ensures.fold at c.next_place-next.ensures in
    let at = noted i.before.now.fold.members i.after.now.members c.args.changes.now c.args.place c.zone_at-zone.result
    c.args.known c.count_before-left.result c.next_place-next.result c.zone_at-zone.ensures h zones n next in
    rw (← c.relisting.view_is) at.behind

pub returns-else-left-next-clause-values : goal.returns-else-left-next-clause-values
returns-else-left-next-clause-values c =
    let i = c.relisting.inside in
    let h = rw (← c.relisting.view_is) at c.requires.behind in
    let zones = rw (← c.relisting.view_is) at c.requires.zones in
    let n = rw c.fold-fold.ensures.fold at c.count_before-left.ensures in
    let next = rw c.fold-fold.ensures.fold at c.next_place-next.ensures in
    let at = noted i.before.now.fold.members i.after.now.members c.args.changes.now c.args.place c.zone_at-zone.result
    c.args.known c.count_before-left.result c.next_place-next.result c.zone_at-zone.ensures h zones n next in
    let was = rw (← c.relisting.view_is) at c.requires.values in
    let on = half_on i.before.now i.schedule.now i.after.now.members c.fold-fold.ensures.state c.relisting.invariant
    c.args.known c.count_before-left.result at.upward at.same in
    let none = at.none c.if-left-next.false in
    rw (← c.relisting.view_is, none) (was ∙ sym on)
