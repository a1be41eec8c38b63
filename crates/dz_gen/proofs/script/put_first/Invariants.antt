use Rattle.std.proofs.Common.{◌≡◌, ◌++◌, drop, flat_map}
use Rattle.dz_gen.specs.Script.{first_transfer}
use Rattle.dz_gen.proofs.script.put_first.Given as goal

abbrev pub invariant-zones : goal.invariant-zones
invariant-zones l = l.out.items ++ flat_map first_transfer (drop l.k-index l.numbers)
    ≡ l.fn.out.items ++ flat_map first_transfer l.numbers
