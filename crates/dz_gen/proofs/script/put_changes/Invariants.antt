use Rattle.std.proofs.Common.{◌≡◌, ◌++◌, drop, flat_map}
use Rattle.dz_gen.specs.Script.{change_transfer}
use Rattle.dz_gen.proofs.script.put_changes.Given as goal

abbrev pub invariant-zones : goal.invariant-zones
invariant-zones l = l.out.items ++ flat_map (change_transfer l.number) (drop l.k-index l.changed)
    ≡ l.fn.out.items ++ flat_map (change_transfer l.number) l.changed
