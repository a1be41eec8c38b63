use Rattle.std.proofs.Common.{arith, length, ap}
use Rattle.dz_name.specs.Name.{labels_of}
use Rattle.dz_name.proofs.PartLemmas.{ancestor_padded}
use Rattle.dz_name.proofs.KeptLemmas.{kept_from, view_from}
use Rattle.dz_name.proofs.name.Name.of_wire.Goals as goal

pub write_at-requires : goal.write_at-requires
write_at-requires c = omega (arith, ap length c.requires.wire_is, c.requires.name.short)

pub invariant_of-result : goal.invariant_of-result
invariant_of-result c =
    kept_from (labels_of c.args.wire.now) _ _ c.requires.name
    (ancestor_padded _ _ _ c.requires.wire_is c.write_at.ensures) (ap length c.requires.wire_is)

pub returns : goal.returns
returns c =
    view_from (labels_of c.args.wire.now) _ _ c.requires.name
    (ancestor_padded _ _ _ c.requires.wire_is c.write_at.ensures) (ap length c.requires.wire_is)
