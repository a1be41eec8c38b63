use Rattle.std.proofs.Common.{◌≡◌, ℕ, ◌-◌, ◌≤◌, true, false, List, Option, Some}
use Rattle.std.specs.Prelude.{◌⊎◌}
use Rattle.dz_io.specs.Counts.{HasRisen}
use Rattle.dz_disk.specs.Disk.{IsQuiet}
use Rattle.dz_disk.specs.RecordLog.{records}
use Rattle.dz_store.specs.Payload.{reads}
use Rattle.dz_provision.specs.inner.Told.{HasStopped, HadTurns}
use Rattle.dz_provision.proofs.restored.restore_places.Given as goal

abbrev pub invariant-places : goal.invariant-places
invariant-places g l = record {
  turns : (f : List ℕ) → g.D.Disk.file l.fn.store.disk ≡ Some f → (stop : Option ℕ)
      → HasStopped l.fn.store.has_failed stop l.places.first → HadTurns
      (records reads f) l.store.has_failed stop l.places.first l.done l.fn.provisioner.core l.provisioner.core;
  failed : l.store.has_failed ≡ true
      → (l.fn.store.has_failed ≡ true) ⊎ HasRisen (g.D.Disk.faults l.fn.store.disk) (g.D.Disk.faults l.store.disk);
  steady : l.store.has_failed ≡ false → g.D.Disk.faults l.store.disk ≡ g.D.Disk.faults l.fn.store.disk;
  stuck : l.fn.store.has_failed ≡ true → l.store ≡ l.fn.store;
  quiet : IsQuiet g.D.Disk.file g.D.Disk.may_leave g.D.Disk.clock g.D.Disk.left_from l.fn.store.disk l.store.disk;
  within : l.done ≤ l.places.count;
}

abbrev pub decreases-places : goal.decreases-places
decreases-places g l = l.places.count - l.done
