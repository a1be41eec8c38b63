use Rattle.std.proofs.Common.{arith}
use Rattle.std.proofs.lemmas.List.{length-replicate}
use Rattle.dz_fleet.proofs.fleet.beginning.Goals as goal

pub over-requires : goal.over-requires
over-requires c = rw (c.zones.invariant, length-replicate) (omega (arith, c.zones.auto._place-end, c.requires))
