use Rattle.std.proofs.Common.{◌≡◌, ◌≢◌, ◌⊎◌, ⊎_elim, ◌∷◌, ◌++◌, take, Some, refl, sym, subst, ◌∙◌}
use Rattle.std.specs.Prelude.{slice_get}
use Rattle.dz_disk.specs.Disk.{IsTorn}
use Rattle.dz_disk.specs.RecordLog.{IsLeft}
use Rattle.dz_disk.proofs.MomentLemmas.{one_call, both_calls, wider}
use Rattle.dz_disk.proofs.CrashLemmas.{closing}
use Rattle.dz_disk.proofs.ScanLemmas.{closed_all, within_all}
use Rattle.dz_disk.proofs.prepared.prepare.Goals as goal

pub returns-in_err-sync-clause-crash : goal.returns-in_err-sync-clause-crash
returns-in_err-sync-clause-crash g c = λ list last f told fits is before.
    one_call g.D.Disk.clock g.D.Disk.left_from c.args.disk.now c.sync.new.self (IsLeft list last)
    (g.D.Disk.may_leave c.sync.new.self)
    (λ x left. before x (g.met.D.Disk.now_alone c.args.disk.now x left)) c.sync.ensures.time
    (λ x may. before x (c.sync.ensures.crash x may))

pub returns-in_err-scan-clause-crash : goal.returns-in_err-scan-clause-crash
returns-in_err-scan-clause-crash g c = λ list last f told fits is before.
    let first = one_call g.D.Disk.clock g.D.Disk.left_from c.args.disk.now c.sync.new.self (IsLeft list last)
    (g.D.Disk.may_leave c.sync.new.self)
    (λ x left. before x (g.met.D.Disk.now_alone c.args.disk.now x left)) c.sync.ensures.time
    (λ x may. before x (c.sync.ensures.crash x may)) in
    both_calls g.D.Disk.clock g.D.Disk.left_from c.args.disk.now c.sync.new.self c.read_log.new.disk
    (IsLeft list last) first
    (wider g.D.Disk.clock g.D.Disk.left_from c.sync.new.self c.read_log.new.disk (g.D.Disk.may_leave c.sync.new.self)
    (IsLeft list last) (λ x may. before x (c.sync.ensures.crash x may)) c.read_log.ensures.quiet.leaves)

pub close_gate-requires-clause-within : goal.close_gate-requires-clause-within
close_gate-requires-clause-within g c = λ f told.
    within_all g.I.RecordIndex.reads g.I.RecordIndex.is_of c.in_ok-scan.scan.index c.in_ok-scan.scan.end
    c.in_ok-scan.scan.gate f (c.in_ok-scan.ensures.all f (sym c.in_ok-scan.ensures.quiet.same ∙ told))

pub returns-in_err-close_gate-clause-crash : goal.returns-in_err-close_gate-clause-crash
returns-in_err-close_gate-clause-crash g c = λ list last f told fits is before.
    let first = one_call g.D.Disk.clock g.D.Disk.left_from c.args.disk.now c.sync.new.self (IsLeft list last)
    (g.D.Disk.may_leave c.sync.new.self)
    (λ x left. before x (g.met.D.Disk.now_alone c.args.disk.now x left)) c.sync.ensures.time
    (λ x may. before x (c.sync.ensures.crash x may)) in
    let second = both_calls g.D.Disk.clock g.D.Disk.left_from c.args.disk.now c.sync.new.self c.read_log.new.disk
    (IsLeft list last) first
    (wider g.D.Disk.clock g.D.Disk.left_from c.sync.new.self c.read_log.new.disk (g.D.Disk.may_leave c.sync.new.self)
    (IsLeft list last) (λ x may. before x (c.sync.ensures.crash x may)) c.read_log.ensures.quiet.leaves) in
    let synced : g.D.Disk.file c.sync.new.self ≡ Some f = c.sync.ensures.same ∙ told in
    let scanned : g.D.Disk.file c.read_log.new.disk ≡ Some f = c.in_ok-scan.ensures.quiet.same ∙ synced in
    let left = before f (g.met.D.Disk.told_may_be_left c.args.disk.now f told) in
    both_calls g.D.Disk.clock g.D.Disk.left_from c.args.disk.now c.read_log.new.disk c.close_gate.new.disk
    (IsLeft list last) second
    (wider g.D.Disk.clock g.D.Disk.left_from c.read_log.new.disk c.close_gate.new.disk (λ x. (x ≡ f)
    ⊎ ((slice_get f c.in_ok-scan.scan.end ≢ Some 0) × IsTorn c.in_ok-scan.scan.end 1 f x)) (IsLeft list last)
    (λ x. ⊎_elim (λ same. subst (λ l. IsLeft list last l) (sym same) left) (λ torn. closing g.I.RecordIndex.reads list
    last f x c.in_ok-scan.scan.end fits is left (c.in_ok-scan.ensures.all f synced).all.ends torn.0 torn.1))
    (c.close_gate.ensures.crash f scanned))

pub returns-clause-crash : goal.returns-clause-crash
returns-clause-crash g c = λ list last f told fits is before.
    let first = one_call g.D.Disk.clock g.D.Disk.left_from c.args.disk.now c.sync.new.self (IsLeft list last)
    (g.D.Disk.may_leave c.sync.new.self)
    (λ x left. before x (g.met.D.Disk.now_alone c.args.disk.now x left)) c.sync.ensures.time
    (λ x may. before x (c.sync.ensures.crash x may)) in
    let second = both_calls g.D.Disk.clock g.D.Disk.left_from c.args.disk.now c.sync.new.self c.read_log.new.disk
    (IsLeft list last) first
    (wider g.D.Disk.clock g.D.Disk.left_from c.sync.new.self c.read_log.new.disk (g.D.Disk.may_leave c.sync.new.self)
    (IsLeft list last) (λ x may. before x (c.sync.ensures.crash x may)) c.read_log.ensures.quiet.leaves) in
    let synced : g.D.Disk.file c.sync.new.self ≡ Some f = c.sync.ensures.same ∙ told in
    let scanned : g.D.Disk.file c.read_log.new.disk ≡ Some f = c.in_ok-scan.ensures.quiet.same ∙ synced in
    let left = before f (g.met.D.Disk.told_may_be_left c.args.disk.now f told) in
    both_calls g.D.Disk.clock g.D.Disk.left_from c.args.disk.now c.read_log.new.disk c.close_gate.new.disk
    (IsLeft list last) second
    (wider g.D.Disk.clock g.D.Disk.left_from c.read_log.new.disk c.close_gate.new.disk (λ x. (x ≡ f)
    ⊎ ((slice_get f c.in_ok-scan.scan.end ≢ Some 0) × IsTorn c.in_ok-scan.scan.end 1 f x)) (IsLeft list last)
    (λ x. ⊎_elim (λ same. subst (λ l. IsLeft list last l) (sym same) left) (λ torn. closing g.I.RecordIndex.reads list
    last f x c.in_ok-scan.scan.end fits is left (c.in_ok-scan.ensures.all f synced).all.ends torn.0 torn.1))
    (c.close_gate.ensures.crash f scanned))

pub returns-clause-opens : goal.returns-clause-opens
returns-clause-opens g c = λ f told.
    let synced : g.D.Disk.file c.sync.new.self ≡ Some f = c.sync.ensures.same ∙ told in
    let scanned : g.D.Disk.file c.read_log.new.disk ≡ Some f = c.in_ok-scan.ensures.quiet.same ∙ synced in
    let closed = c.in_ok-close_gate.ensures.closed f scanned in
    let file = take c.in_ok-scan.scan.end f ++ 0 ∷ closed.0 in
    let done = closed_all g.I.RecordIndex.reads g.I.RecordIndex.is_of c.in_ok-scan.scan.index c.in_ok-scan.scan.end
    c.in_ok-scan.scan.gate f file closed.0 (g.D.Disk.may_leave c.close_gate.new.disk)
    (c.in_ok-scan.ensures.all f synced) refl (c.in_ok-close_gate.ensures.sure file closed.1) in
    (file, closed.1, done.0, done.1)
