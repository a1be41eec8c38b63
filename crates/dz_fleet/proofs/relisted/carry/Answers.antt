use Rattle.std.proofs.Common.{◌∙◌, ap, arith}
use Rattle.std.specs.Prelude.{length}
use Rattle.std.proofs.lemmas.Result.{IfOk-weaker}
use Rattle.dz_member.specs.Fold.{FoldOf}
use Rattle.dz_fleet.specs.Values.{carried}
use Rattle.dz_fleet.proofs.LeapLemmas.{last_run}
use Rattle.dz_fleet.proofs.relisted.carry.Goals as goal

pub returns : goal.returns
returns c =
    let i = c.relisting.inside in
    let count = c.count-count.ensures ∙ ap (λ (f : FoldOf). length f.members) c.fold.ensures.fold in
    let h = rw (← c.relisting.view_is) at c.changes.invariant.behind in
    let v = rw (← c.relisting.view_is) at c.changes.invariant.values in
    rw (← c.relisting.view_is)
    (IfOk-weaker c.copy_run.result _ _
    (λ _ e. last_run (carried i.before.now i.schedule.now) i.before.now.fold.members i.after.now.members
    c.args.changes.now c.changes.place c.changes.behind.left c.changes.behind.made c.count-count.result
    c.args.values.now.items c.changes.values.items c.copy_run.new.values.items h
    (omega (arith, c.changes-test.false, c.count_of-place-end.ensures)) count v e)
    (rw (← c.relisting.view_is) at c.copy_run.ensures))
