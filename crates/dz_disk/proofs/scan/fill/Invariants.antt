use Rattle.std.proofs.Common.{◌≡◌, ◌-◌, ◌≤◌, ℕ, List, length, take, drop, Some}
use Rattle.dz_disk.specs.Disk.{IsQuiet}
use Rattle.dz_disk.proofs.scan.fill.Given as goal

abbrev pub invariant-filling : goal.invariant-filling
invariant-filling g l = record {
  within : l.filled ≤ length l.buffer;
  front : (f : List ℕ) → g.D.Disk.file l.fn.disk ≡ Some f → take l.filled l.buffer ≡ take l.filled (drop l.at f);
  quiet : IsQuiet g.D.Disk.file g.D.Disk.may_leave g.D.Disk.clock g.D.Disk.left_from l.fn.disk l.disk;
  faults : g.D.Disk.faults l.disk ≡ g.D.Disk.faults l.fn.disk;
}

abbrev pub decreases-filling : goal.decreases-filling
decreases-filling g l = length l.buffer - l.filled
