use Rattle.std.proofs.Common.{◌≡◌, ◌++◌, ℕ, List, Some, false, map, take}
use Rattle.dz_disk.specs.Disk.{Leaves}
use Rattle.dz_disk.specs.RecordLog.{records}
use Rattle.dz_disk.specs.Several.{IsLeftAmong}
use Rattle.dz_disk.proofs.several.append_each.Given as goal

abbrev pub invariant-payloads : goal.invariant-payloads
invariant-payloads g l = record {
  able : l.log.has_failed ≡ false;
  faults : g.D.Disk.faults l.log.disk ≡ g.D.Disk.faults l.fn.log.disk;
  far : (f : List ℕ) → g.D.Disk.file l.fn.log.disk ≡ Some f
      → (h : List ℕ) × (g.D.Disk.file l.log.disk ≡ Some h) × (records g.I.RecordIndex.reads h
      ≡ records g.I.RecordIndex.reads f ++ take l.payload-index (map (λ v. v.items) l.payloads));
  leaves : (f : List ℕ) → g.D.Disk.file l.fn.log.disk ≡ Some f → Leaves g.D.Disk.clock g.D.Disk.left_from l.fn.log.disk
      l.log.disk (IsLeftAmong (records g.I.RecordIndex.reads f) (map (λ v. v.items) l.payloads) f);
}
