use Rattle.std.proofs.Common.{◌≡◌, take}
use Rattle.dz_fleet.specs.Weighing.{written_at}
use Rattle.dz_fleet.proofs.settle.write_at.Given as goal

abbrev pub invariant-pairs : goal.invariant-pairs
invariant-pairs l = l.schedule ≡ written_at l.initial.schedule (take l.pair-index l.pairs)
