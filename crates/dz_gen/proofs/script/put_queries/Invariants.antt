use Rattle.std.proofs.Common.{◌≡◌, ◌++◌, drop, flat_map}
use Rattle.dz_gen.specs.Script.{asked}
use Rattle.dz_gen.proofs.script.put_queries.Given as goal

abbrev pub invariant-zones : goal.invariant-zones
invariant-zones l = l.out.items ++ flat_map (asked l.moment) (drop l.k-index l.numbers)
    ≡ l.fn.out.items ++ flat_map (asked l.moment) l.numbers
