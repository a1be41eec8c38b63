use Rattle.std.proofs.Common.{map, take}
use Rattle.dz_provision.specs.Keeping.{forget, gone}
use Rattle.dz_provision.specs.inner.Tasks.{ArePassed}
use Rattle.dz_provision.proofs.keep.forget_all.Given as goal

abbrev pub invariant-changes : goal.invariant-changes
invariant-changes g l = record {
  passed : ArePassed g.D.Disk.file g.D.Disk.faults g.D.Disk.clock g.D.Disk.left_from l.fn.store l.store
      (map forget (gone (take l.place l.changes)));
}
