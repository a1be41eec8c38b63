use Rattle.std.proofs.Common.{subst}
use Rattle.dz_disk.specs.RecordLog.{IsLog}
use Rattle.dz_disk.proofs.record_log.RecordLog.index.Goals as goal

pub returns-clause-settled : goal.returns-clause-settled
returns-clause-settled g c = λ able f told.
    let store = subst (λ s. IsLog g.I.RecordIndex.reads g.I.RecordIndex.is_of (g.D.Disk.file s.disk)
    (g.D.Disk.may_leave s.disk) s.index s.end s.has_failed) c.self.view_is c.self.invariant in
    store.kept able f told
