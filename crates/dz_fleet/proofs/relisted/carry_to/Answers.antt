use Rattle.std.proofs.Common.{arith}
use Rattle.dz_fleet.specs.Values.{carried}
use Rattle.dz_fleet.proofs.ReachLemmas.{goes_to}
use Rattle.dz_fleet.proofs.LeapLemmas.{leap_to, leap_held, leap_none, leap_one}
use Rattle.dz_fleet.proofs.relisted.carry_to.Goals as goal

pub count_before-left-requires-clause-known : goal.count_before-left-requires-clause-known
count_before-left-requires-clause-known c =
    let i = c.relisting.inside in
    let h = rw (← c.relisting.view_is) at c.requires.behind in
    let g = goes_to i.before.now.fold.members i.after.now.members c.args.changes.now c.args.place c.zone_at-zone.result
    c.args.behind.left c.args.behind.made c.zone_at-zone.ensures h in
    rw c.fold.ensures.fold g.upward

pub copy_run-requires-clause-order : goal.copy_run-requires-clause-order
copy_run-requires-clause-order c =
    let i = c.relisting.inside in
    let h = rw (← c.relisting.view_is) at c.requires.behind in
    let n = rw c.fold.ensures.fold at c.count_before-left.ensures in
    (leap_to i.before.now.fold.members i.after.now.members c.args.changes.now c.args.place c.zone_at-zone.result
    c.args.behind.left c.args.behind.made c.count_before-left.result c.zone_at-zone.ensures h n).upward

pub copy_run-requires-clause-within : goal.copy_run-requires-clause-within
copy_run-requires-clause-within c =
    let i = c.relisting.inside in
    let h = rw (← c.relisting.view_is) at c.requires.behind in
    let n = rw c.fold.ensures.fold at c.count_before-left.ensures in
    rw (← c.relisting.view_is)
    (leap_to i.before.now.fold.members i.after.now.members c.args.changes.now c.args.place c.zone_at-zone.result
    c.args.behind.left c.args.behind.made c.count_before-left.result c.zone_at-zone.ensures h n).within

pub overflow_sub-made : goal.overflow_sub-made
overflow_sub-made c =
    let i = c.relisting.inside in
    let h = rw (← c.relisting.view_is) at c.requires.behind in
    let n = rw c.fold.ensures.fold at c.count_before-left.ensures in
    (leap_to i.before.now.fold.members i.after.now.members c.args.changes.now c.args.place c.zone_at-zone.result
    c.args.behind.left c.args.behind.made c.count_before-left.result c.zone_at-zone.ensures h n).upward

pub overflow_add-made : goal.overflow_add-made
overflow_add-made c =
    let i = c.relisting.inside in
    let h = rw (← c.relisting.view_is) at c.requires.behind in
    let n = rw c.fold.ensures.fold at c.count_before-left.ensures in
    let leap = leap_to i.before.now.fold.members i.after.now.members c.args.changes.now c.args.place
    c.zone_at-zone.result c.args.behind.left c.args.behind.made c.count_before-left.result c.zone_at-zone.ensures h n in
    omega (arith, leap.inside, c.relisting.invariant.few)

pub carried_at-requires-clause-there : goal.carried_at-requires-clause-there
carried_at-requires-clause-there c =
    let i = c.relisting.inside in
    let h = rw (← c.relisting.view_is) at c.requires.behind in
    let n = rw c.fold.ensures.fold at c.count_before-left.ensures in
    let leap = leap_to i.before.now.fold.members i.after.now.members c.args.changes.now c.args.place
    c.zone_at-zone.result c.args.behind.left c.args.behind.made c.count_before-left.result c.zone_at-zone.ensures h n in
    let next = rw (← c.next_place-next_made.ensures) at leap.behind.inside in
    rw (← c.relisting.view_is) (omega (arith, next, c.if-made-next_made.true))

pub carried_at-requires-clause-held : goal.carried_at-requires-clause-held
carried_at-requires-clause-held c =
    let i = c.relisting.inside in
    let h = rw (← c.relisting.view_is) at c.requires.behind in
    let n = rw c.fold.ensures.fold at c.count_before-left.ensures in
    let leap = leap_to i.before.now.fold.members i.after.now.members c.args.changes.now c.args.place
    c.zone_at-zone.result c.args.behind.left c.args.behind.made c.count_before-left.result c.zone_at-zone.ensures h n in
    let left = rw c.fold-2.ensures.fold at c.next_place-next_left.ensures in
    rw (← c.relisting.view_is)
    (leap_held i.before.now.fold.members i.after.now.members _ c.zone_at-zone.result c.args.behind.left
    c.args.behind.made c.count_before-left.result leap _ _ c.place_before.result left c.next_place-next_made.ensures
    c.if-made-next_made.true c.place_before.ensures)

pub returns-in_ok-push-clause-behind : goal.returns-in_ok-push-clause-behind
returns-in_ok-push-clause-behind c =
    let i = c.relisting.inside in
    let h = rw (← c.relisting.view_is) at c.requires.behind in
    let n = rw c.fold.ensures.fold at c.count_before-left.ensures in
    let leap = leap_to i.before.now.fold.members i.after.now.members c.args.changes.now c.args.place
    c.zone_at-zone.result c.args.behind.left c.args.behind.made c.count_before-left.result c.zone_at-zone.ensures h n in
    let left = rw c.fold-2.ensures.fold at c.next_place-next_left.ensures in
    rw (← c.relisting.view_is, left, c.next_place-next_made.ensures) leap.behind

pub returns-in_ok-push-clause-values : goal.returns-in_ok-push-clause-values
returns-in_ok-push-clause-values c =
    let i = c.relisting.inside in
    let h = rw (← c.relisting.view_is) at c.requires.behind in
    let n = rw c.fold.ensures.fold at c.count_before-left.ensures in
    let leap = leap_to i.before.now.fold.members i.after.now.members c.args.changes.now c.args.place
    c.zone_at-zone.result c.args.behind.left c.args.behind.made c.count_before-left.result c.zone_at-zone.ensures h n in
    let v = rw (← c.relisting.view_is) at c.carried_at.ensures in
    let one = rw (← c.relisting.view_is) at c.in_ok-copy_run.ensures in
    rw (← c.relisting.view_is, c.in_ok-push.ensures.items, one)
    (leap_one (carried i.before.now i.schedule.now) i.before.now.fold.members i.after.now.members _
    c.zone_at-zone.result c.args.behind.left c.args.behind.made c.count_before-left.result leap
    c.args.values.now.items _
    c.carried_at.result c.next_place-next_made.ensures c.if-made-next_made.true v)

pub returns-else-made-next_made-clause-behind : goal.returns-else-made-next_made-clause-behind
returns-else-made-next_made-clause-behind c =
    let i = c.relisting.inside in
    let h = rw (← c.relisting.view_is) at c.requires.behind in
    let n = rw c.fold.ensures.fold at c.count_before-left.ensures in
    let leap = leap_to i.before.now.fold.members i.after.now.members c.args.changes.now c.args.place
    c.zone_at-zone.result c.args.behind.left c.args.behind.made c.count_before-left.result c.zone_at-zone.ensures h n in
    let left = rw c.fold-2.ensures.fold at c.next_place-next_left.ensures in
    rw (← c.relisting.view_is, left, c.next_place-next_made.ensures) leap.behind

pub returns-else-made-next_made-clause-values : goal.returns-else-made-next_made-clause-values
returns-else-made-next_made-clause-values c =
    let i = c.relisting.inside in
    let h = rw (← c.relisting.view_is) at c.requires.behind in
    let n = rw c.fold.ensures.fold at c.count_before-left.ensures in
    let leap = leap_to i.before.now.fold.members i.after.now.members c.args.changes.now c.args.place
    c.zone_at-zone.result c.args.behind.left c.args.behind.made c.count_before-left.result c.zone_at-zone.ensures h n in
    let one = rw (← c.relisting.view_is) at c.in_ok-copy_run.ensures in
    rw (← c.relisting.view_is, one)
    (leap_none (carried i.before.now i.schedule.now) i.before.now.fold.members i.after.now.members _
    c.zone_at-zone.result c.args.behind.left c.args.behind.made c.count_before-left.result leap
    c.args.values.now.items _
    c.next_place-next_made.ensures c.if-made-next_made.false)
