use Rattle.std.proofs.Common.{◌≡◌, ◌++◌, drop, flat_map}
use Rattle.dz_gen.specs.Script.{next_transfer}
use Rattle.dz_gen.proofs.script.put_next.Given as goal

abbrev pub invariant-zones : goal.invariant-zones
invariant-zones l = l.out.items ++ flat_map (next_transfer l.number) (drop l.k-index l.tenths)
    ≡ l.fn.out.items ++ flat_map (next_transfer l.number) l.tenths
