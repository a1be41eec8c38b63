use Rattle.std.proofs.Common.{◌≡◌, drop}
use Rattle.dz_xfr.specs.Room.{left_after}
use Rattle.dz_xfr.proofs.room.Room.take_all.Given as goal

abbrev pub invariant-records : goal.invariant-records
invariant-records l = left_after l.self (drop l.found-index l.records) ≡ left_after l.fn.self l.records
