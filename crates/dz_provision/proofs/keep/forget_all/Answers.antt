use Rattle.std.proofs.Common.{◌++◌, ◌∷◌, [], ◌+◌, ◌∙◌, List, map, take, drop, sym, subst, arith}
use Rattle.std.proofs.lemmas.Option.{get_or_from_slice_get}
use Rattle.std.proofs.lemmas.Result.{err_from_is_err_and}
use Rattle.dz_provision.specs.Keeping.{Task, forget, gone}
use Rattle.dz_provision.specs.KeepingAnswer.{IsStopped}
use Rattle.dz_provision.specs.inner.Tasks.{ArePassed, LeavesTasks}
use Rattle.dz_provision.proofs.TaskLemmas.{stopped_more, stopped_later, left_more, passed_none, passed_more}
use Rattle.dz_provision.proofs.TaskListLemmas.{gone_next, gone_same, gone_all}
use Rattle.dz_provision.proofs.keep.forget_all.Goals.{then-goes+in_ok-forget_one, else-goes}
use Rattle.dz_provision.proofs.keep.forget_all.Goals as goal

pub changes-init : goal.changes-init
unfolding gone
changes-init g c = record {
  passed =
      passed_none g.D.Disk.file g.D.Disk.faults g.D.Disk.may_leave g.D.Disk.clock g.D.Disk.left_from c.args.store.now;
}

pub returns-in_err-forget_one-clause-stopped : goal.returns-in_err-forget_one-clause-stopped
returns-in_err-forget_one-clause-stopped g c =
    let p = err_from_is_err_and c.from_residual.result c.from_residual.ensures.1 in
    let cs = c.args.changes.now in
    let i = c.changes.place in
    let change = c.at-change.result in
    let u = c.in_err-forget_one.field-0.0 in
    let xs : List Task = map forget (gone (take i cs)) in
    let here = c.forget_one.new.store in
    let all = gone_all cs i change change (omega arith) (sym (get_or_from_slice_get cs i change change c.at-change.ensures)) (sym c.goes.ensures ∙ c.if-goes.true) in
    rw (p.1, p.2)
    (subst (λ every. IsStopped g.D.Disk.file g.D.Disk.faults c.args.store.now here every u.zone u.fault) all
    (stopped_more g.D.Disk.file g.D.Disk.faults c.args.store.now here (xs ++ forget change.zone ∷ [])
    (map forget (gone (drop (i + 1) cs))) u.zone u.fault
    (stopped_later g.D.Disk.file g.D.Disk.faults c.args.store.now c.changes.store here xs
    (forget change.zone ∷ []) u.zone u.fault c.changes.invariant.passed.done c.in_err-forget_one.ensures.stopped)))

pub returns-in_err-forget_one-clause-crash : goal.returns-in_err-forget_one-clause-crash
returns-in_err-forget_one-clause-crash g c = λ err.
    let cs = c.args.changes.now in
    let i = c.changes.place in
    let change = c.at-change.result in
    let xs : List Task = map forget (gone (take i cs)) in
    let here = c.forget_one.new.store in
    let all = gone_all cs i change change (omega arith) (sym (get_or_from_slice_get cs i change change c.at-change.ensures)) (sym c.goes.ensures ∙ c.if-goes.true) in
    subst (λ every. LeavesTasks g.D.Disk.file g.D.Disk.clock g.D.Disk.left_from c.args.store.now here every) all
    (left_more g.D.Disk.file g.D.Disk.faults g.D.Disk.may_leave g.D.Disk.clock g.D.Disk.left_from c.args.store.now here
    (xs ++ forget change.zone ∷ []) (map forget (gone (drop (i + 1) cs)))
    (c.changes.invariant.passed.left here (forget change.zone ∷ []) c.forget_one.ensures.crash))

pub changes-preserved : goal.changes-preserved
changes-preserved g c =
    let cs = c.args.changes.now in
    let i = c.changes.place in
    let change = c.at-change.result in
    let xs : List Task = map forget (gone (take i cs)) in
    elim c.if-goes.branch [
      | then-goes+in_ok-forget_one w ↦
          let here = w.forget_one.new.store in
          let next =
          gone_next cs i change change (omega arith) (sym (get_or_from_slice_get cs i change change c.at-change.ensures)) (sym c.goes.ensures ∙ w.if-goes.true) in
          rw w.store-is record {
            passed = subst (λ every. ArePassed g.D.Disk.file g.D.Disk.faults g.D.Disk.clock g.D.Disk.left_from
                c.args.store.now here every) next
                (passed_more g.D.Disk.file g.D.Disk.faults g.D.Disk.may_leave g.D.Disk.clock g.D.Disk.left_from
                c.args.store.now c.changes.store here xs (forget change.zone ∷ [])
                (λ d f told. g.met.D.Disk.told_may_be_left d f told)
                (λ d t x le may. g.met.D.Disk.now_counts d t x le may)
                c.changes.invariant.passed w.in_ok-forget_one.ensures.done w.in_ok-forget_one.ensures.crash);
          }
      | else-goes w ↦
          let same =
          gone_same cs i change change (omega arith) (sym (get_or_from_slice_get cs i change change c.at-change.ensures)) (sym c.goes.ensures ∙ w.if-goes.false) in
          rw w.store-is record {
            passed = subst (λ every. ArePassed g.D.Disk.file g.D.Disk.faults g.D.Disk.clock g.D.Disk.left_from
                c.args.store.now c.changes.store every) same c.changes.invariant.passed;
          }
    ]
