use Rattle.std.proofs.Common.{◌≡◌, ◌++◌, drop, flat_map}
use Rattle.dz_gen.specs.Messages.{catalog_member}
use Rattle.dz_gen.proofs.script.put_members.Given as goal

abbrev pub invariant-members : goal.invariant-members
invariant-members l = l.octets.items ++ flat_map catalog_member (drop l.k-index l.numbers)
    ≡ l.fn.octets.items ++ flat_map catalog_member l.numbers
