use Rattle.std.proofs.Common.{◌≡◌, ◌+◌, [], ◌∷◌, ◌++◌, length, drop, ap, subst, ◌∙◌, arith}
use Rattle.dz_disk.specs.RecordLog.{limit}
use Rattle.dz_disk.specs.inner.Reading.{IsFound, IsReadable}
use Rattle.dz_disk.proofs.MomentLemmas.{quiet_both}
use Rattle.dz_disk.proofs.ScanLemmas.{scan_more, scan_past, scan_all}
use Rattle.dz_disk.proofs.scan.read_log.Goals as goal

pub returns-in-Shut-clause-all : goal.returns-in-Shut-clause-all
returns-in-Shut-clause-all g c = λ f told.
    let far = c.records.invariant.far f told in
    let found = subst (λ s. IsFound g.I.RecordIndex.reads s (drop c.records.end f)) c.in-Shut.is
    (c.in_ok-gate.ensures.found f (c.records.invariant.quiet.same ∙ told)) in
    scan_all g.I.RecordIndex.reads g.I.RecordIndex.is_of c.records.index c.records.end c.in-Shut.gate f
    far.0 far.1 found

pub add-requires : goal.add-requires
add-requires g c =
    let fit = subst (λ s. IsReadable g.I.RecordIndex.reads s) c.in-Record.is c.in_ok-gate.ensures.readable in
    ap g.I.RecordIndex.reads c.deref.ensures.value ∙ fit.1

pub records-preserved : goal.records-preserved
records-preserved g c =
    let so_far = c.records.invariant in
    let fit = subst (λ s. IsReadable g.I.RecordIndex.reads s) c.in-Record.is c.in_ok-gate.ensures.readable in
    let long : c.len.result ≡ length c.in-Record.payload.items = omega arith in
    record {
      within = omega arith;
      far = λ f told.
          let far = so_far.far f told in
          let found = subst (λ s. IsFound g.I.RecordIndex.reads s (drop c.records.end f)) c.in-Record.is
          (c.in_ok-gate.ensures.found f (so_far.quiet.same ∙ told)) in (
            far.0 ++ c.in-Record.payload.items ∷ [],
            scan_more g.I.RecordIndex.reads g.I.RecordIndex.is_of c.records.index c.add.new.self c.records.end
                (c.records.end + 9 + c.len.result) f far.0 c.in-Record.payload.items found.0 far.1 found.1 found.2
                (omega (arith, long)) (subst (λ l. g.I.RecordIndex.is_of c.add.new.self (far.0 ++ l ∷ []))
                c.deref.ensures.value (c.in_ok-add-in-Record.ensures.ok far.0 far.1.known far.1.ends)),
          );
      quiet = quiet_both g.D.Disk.file g.D.Disk.may_leave g.D.Disk.clock g.D.Disk.left_from c.args.disk.now
          c.records.disk c.read_record.new.disk so_far.quiet c.in_ok-gate.ensures.quiet;
      faults = c.in_ok-gate.ensures.cause.kept ∙ so_far.faults;
    }

pub returns-then-next-gt-LIMIT-clause-full : goal.returns-then-next-gt-LIMIT-clause-full
returns-then-next-gt-LIMIT-clause-full g c = λ full f told.
    let far = c.records.invariant.far f told in
    let found = subst (λ s. IsFound g.I.RecordIndex.reads s (drop c.records.end f)) c.in-Record.is
    (c.in_ok-gate.ensures.found f (c.records.invariant.quiet.same ∙ told)) in
    scan_past g.I.RecordIndex.reads g.I.RecordIndex.is_of c.records.index c.records.end limit f far.0
    c.in-Record.payload.items found.0 far.1 found.1 found.2 (omega arith)
