use Rattle.dz_disk.proofs.LogLemmas.{read_log_so}
use Rattle.dz_disk.proofs.record_log.RecordLog.payload.Goals as goal

pub invariant_of-self : goal.invariant_of-self
invariant_of-self g c =
    read_log_so g.D.Disk.file g.D.Disk.may_leave g.D.Disk.clock g.D.Disk.left_from g.I.RecordIndex.reads
    g.I.RecordIndex.is_of c.self.inside.disk c.read_part.new.disk c.self.inside.index c.self.inside.end
    c.self.inside.has_failed c.self.inside.has_failed c.self.invariant (λ able. able) c.read_part.ensures.quiet

pub invariant_of-self-in-Err : goal.invariant_of-self-in-Err
invariant_of-self-in-Err g c =
    read_log_so g.D.Disk.file g.D.Disk.may_leave g.D.Disk.clock g.D.Disk.left_from g.I.RecordIndex.reads
    g.I.RecordIndex.is_of c.self.inside.disk c.read_part.new.disk c.self.inside.index c.self.inside.end
    c.self.inside.has_failed c.eq-self-inside.result c.self.invariant
    (λ able. c.if-self.false) c.read_part.ensures.quiet
