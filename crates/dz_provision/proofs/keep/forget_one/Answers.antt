use Rattle.std.proofs.Common.{refl}
use Rattle.dz_provision.specs.Keeping.{forget}
use Rattle.dz_provision.proofs.TaskLemmas.{done_one, stopped_one, why_one, left_one}
use Rattle.dz_provision.proofs.keep.forget_one.Goals as goal

pub returns-in-Ok-clause-done : goal.returns-in-Ok-clause-done
returns-in-Ok-clause-done g c =
    done_one g.D.Disk.file g.D.Disk.faults c.args.store.now c.forget.new.self
    (forget c.args.zone.now) c.in-Ok.ensures.forgot c.in-Ok.ensures.able c.in-Ok.ensures.faults

pub returns-in-Ok-clause-crash : goal.returns-in-Ok-clause-crash
returns-in-Ok-clause-crash g c =
    left_one g.D.Disk.file g.D.Disk.faults g.D.Disk.may_leave g.D.Disk.clock g.D.Disk.left_from c.args.store.now
    c.forget.new.self (forget c.args.zone.now) c.in-Ok.ensures.crash

pub returns-in-Err-clause-stopped : goal.returns-in-Err-clause-stopped
returns-in-Err-clause-stopped g c =
    stopped_one g.D.Disk.file g.D.Disk.faults c.args.store.now c.forget.new.self
    (forget c.args.zone.now) c.args.zone.now c.in-Err.fault refl c.in-Err.ensures.same
    (why_one g.D.Disk.file g.D.Disk.faults c.args.store.now c.forget.new.self
    (forget c.args.zone.now) c.in-Err.fault c.in-Err.ensures.same c.in-Err.ensures.failed c.in-Err.ensures.full
    (λ e. absurd (c.in-Err.ensures.never_unfit e)))

pub returns-in-Err-clause-crash : goal.returns-in-Err-clause-crash
returns-in-Err-clause-crash g c =
    left_one g.D.Disk.file g.D.Disk.faults g.D.Disk.may_leave g.D.Disk.clock g.D.Disk.left_from c.args.store.now
    c.forget.new.self (forget c.args.zone.now) c.in-Err.ensures.crash
