use Rattle.std.proofs.Common.{◌≡◌, take}
use Rattle.dz_producer.proofs.produced.shared.Given as goal

abbrev pub invariant-records : goal.invariant-records
invariant-records l = l.all.items ≡ take l.record-index l.records
