use Rattle.std.proofs.Common.{◌≡◌, ℕ, List, [], take, Some, false}
use Rattle.dz_disk.specs.Disk.{IsQuiet}
use Rattle.dz_disk.specs.RecordLog.{records}
use Rattle.dz_store.specs.Payload.{reads}
use Rattle.dz_store.proofs.CopyLemmas.{Copied}
use Rattle.dz_store.proofs.copy.copy_all.Given as goal

abbrev pub invariant-zones : goal.invariant-zones
invariant-zones g l = record {
  quiet : IsQuiet g.D.Disk.file g.D.Disk.may_leave g.D.Disk.clock g.D.Disk.left_from l.fn.source.disk l.source.disk;
  faults : g.D.Disk.faults l.source.disk ≡ g.D.Disk.faults l.fn.source.disk;
  counted : g.E.Disk.faults l.target.disk ≡ g.E.Disk.faults l.fn.target.disk;
  able : l.source.has_failed ≡ false;
  same : l.target.has_failed ≡ l.fn.target.has_failed;
  far : (f e : List ℕ) → g.D.Disk.file l.fn.source.disk ≡ Some f → g.E.Disk.file l.fn.target.disk ≡ Some e
      → records reads e ≡ [] → (h : List ℕ) × (g.E.Disk.file l.target.disk ≡ Some h)
      × Copied (records reads f) (take l.zone-index l.zone-items) (records reads h);
}
