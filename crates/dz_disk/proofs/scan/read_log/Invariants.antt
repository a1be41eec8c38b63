use Rattle.std.proofs.Common.{◌≡◌, ◌-◌, ◌≤◌, ℕ, List, Some}
use Rattle.dz_disk.specs.Disk.{IsQuiet}
use Rattle.dz_disk.specs.RecordLog.{limit}
use Rattle.dz_disk.specs.inner.Reading.{IsSoFar}
use Rattle.dz_disk.proofs.scan.read_log.Given as goal

abbrev pub invariant-records : goal.invariant-records
invariant-records g l = record {
  within : l.end ≤ limit;
  far : (f : List ℕ) → g.D.Disk.file l.fn.disk ≡ Some f
      → IsSoFar g.I.RecordIndex.reads g.I.RecordIndex.is_of l.index l.end f;
  quiet : IsQuiet g.D.Disk.file g.D.Disk.may_leave g.D.Disk.clock g.D.Disk.left_from l.fn.disk l.disk;
  faults : g.D.Disk.faults l.disk ≡ g.D.Disk.faults l.fn.disk;
}

abbrev pub decreases-records : goal.decreases-records
decreases-records g l = limit - l.end
