use Rattle.std.proofs.Common.{map, refl}
use Rattle.std.specs.Option.{option_to_list}
use Rattle.std.proofs.lemmas.Result.{err_from_is_err_and}
use Rattle.dz_provision.specs.Keeping.{forget, save, gone, changes_of, last_kept}
use Rattle.dz_provision.proofs.TaskLemmas.{if_ok, if_err, done_both, stopped_more, stopped_later, left_more}
use Rattle.dz_provision.proofs.TaskListLemmas.{last_is_kept}
use Rattle.dz_provision.proofs.keep.do_tasks.Goals as goal

pub returns-in_err-forget_gone-clause-saved : goal.returns-in_err-forget_gone-clause-saved
returns-in_err-forget_gone-clause-saved g c =
    last_is_kept c.args.fleet.now.list c.args.verdict.now c.last-last.ensures.refreshed c.requires.last

pub returns-in_err-forget_gone-clause-stopped : goal.returns-in_err-forget_gone-clause-stopped
returns-in_err-forget_gone-clause-stopped g c =
    let p = err_from_is_err_and c.from_residual.result c.from_residual.ensures.1 in
    let u = c.in_err-forget_gone.field-0.0 in
    let saves = map save (option_to_list (last_kept c.args.fleet.now.list)) in
    rw (p.1, p.2)
    (stopped_more g.D.Disk.file g.D.Disk.faults c.args.store.now c.forget_gone.new.store
    (map forget (gone (changes_of c.args.verdict.now))) saves u.zone u.fault
    c.in_err-forget_gone.ensures.stopped)

pub returns-in_err-forget_gone-clause-crash : goal.returns-in_err-forget_gone-clause-crash
returns-in_err-forget_gone-clause-crash g c =
    left_more g.D.Disk.file g.D.Disk.faults g.D.Disk.may_leave g.D.Disk.clock g.D.Disk.left_from
    c.args.store.now c.forget_gone.new.store (map forget (gone (changes_of c.args.verdict.now)))
    (map save (option_to_list (last_kept c.args.fleet.now.list)))
    (c.in_err-forget_gone.ensures.crash refl)

pub returns-clause-saved : goal.returns-clause-saved
returns-clause-saved g c =
    last_is_kept c.args.fleet.now.list c.args.verdict.now c.last-last.ensures.refreshed c.requires.last

pub returns-clause-done : goal.returns-clause-done
returns-clause-done g c =
    if_ok c.save_last.result (λ later. done_both g.D.Disk.file g.D.Disk.faults c.args.store.now c.forget_gone.new.store
    c.save_last.new.store (map forget (gone (changes_of c.args.verdict.now)))
    (map save (option_to_list (last_kept c.args.fleet.now.list)))
    c.in_ok-forget_gone.ensures.passed.done later)
    c.save_last.ensures.done

pub returns-clause-stopped : goal.returns-clause-stopped
returns-clause-stopped g c =
    if_err c.save_last.result (λ u later. stopped_later g.D.Disk.file g.D.Disk.faults c.args.store.now
    c.forget_gone.new.store c.save_last.new.store (map forget (gone (changes_of c.args.verdict.now)))
    (map save (option_to_list (last_kept c.args.fleet.now.list))) u.zone u.fault
    c.in_ok-forget_gone.ensures.passed.done later)
    c.save_last.ensures.stopped

pub returns-clause-crash : goal.returns-clause-crash
returns-clause-crash g c =
    c.in_ok-forget_gone.ensures.passed.left c.save_last.new.store
    (map save (option_to_list (last_kept c.args.fleet.now.list))) c.save_last.ensures.crash

pub save_last-requires-clause-saved : goal.save_last-requires-clause-saved
save_last-requires-clause-saved g c =
    last_is_kept c.args.fleet.now.list c.args.verdict.now c.last-last.ensures.refreshed c.requires.last
