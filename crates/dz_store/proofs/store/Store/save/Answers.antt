use Rattle.std.proofs.Common.{ap, sym, subst, ◌∙◌}
use Rattle.dz_disk.specs.Disk.{Leaves}
use Rattle.dz_disk.specs.RecordLog.{records, IsLeft}
use Rattle.dz_store.specs.Payload.{reads}
use Rattle.dz_store.specs.Kept.{meaning_of, payload_of}
use Rattle.dz_store.proofs.PayloadLemmas.{kept_reads}
use Rattle.dz_store.proofs.QuietLemmas.{idle}
use Rattle.dz_store.proofs.store.Store.save.Goals as goal

pub returns-in_err-payload-clause-crash : goal.returns-in_err-payload-clause-crash
returns-in_err-payload-clause-crash g c = λ able f told.
    let settled = c.has_failed.ensures.settled (sym c.has_failed.ensures.value ∙ c.if-has_failed.false) f
    (ap (λ s. g.D.Disk.file s.disk) c.self.view_is ∙ told) in
    subst (λ s. Leaves g.D.Disk.clock g.D.Disk.left_from s.disk s.disk
    (IsLeft (records reads f) (payload_of (meaning_of c.args.kept.now)))) c.self.view_is
    (idle g.D.Disk.clock g.D.Disk.left_from (g.D.Disk.may_leave c.self.inside.log.disk) c.self.inside.log.disk
    (records reads f) (payload_of (meaning_of c.args.kept.now)) f settled.rest settled.sure
    (λ x left. g.met.D.Disk.now_alone c.self.inside.log.disk x left))

pub append-requires : goal.append-requires
append-requires g c = record {
  reads = ap reads (c.deref.ensures.value ∙ c.in_ok-payload.ensures.payload)
      ∙ kept_reads (meaning_of c.args.kept.now) c.in_ok-payload.ensures.can;
}
