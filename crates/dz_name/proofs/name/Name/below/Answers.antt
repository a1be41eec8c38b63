use Rattle.std.proofs.Common.{arith, ◌∷◌, ap, length, length-append}
use Rattle.dz_name.specs.Name.{wire_of}
use Rattle.dz_name.proofs.PartLemmas.{prepended, prepend_name}
use Rattle.dz_name.proofs.KeptLemmas.{kept_from, view_from}
use Rattle.dz_name.proofs.name.Name.below.Goals as goal

pub invariant_of-result : goal.invariant_of-result
unfolding wire_of
invariant_of-result c =
    kept_from (c.args.label.now ∷ c.args.above.now) _ _
    (prepend_name _ _ c.wire-wire.ensures.name c.requires.is c.requires.room)
    (prepended _ c.args.label.now _ _ _ _ c.wire-wire.ensures.wire c.write_at.ensures c.write_at-2.ensures
    c.write_at-3.ensures)
    (omega (arith, ap length c.wire-wire.ensures.wire, length-append c.args.label.now (wire_of c.args.above.now)))

pub returns : goal.returns
unfolding wire_of
returns c =
    view_from (c.args.label.now ∷ c.args.above.now) _ _
    (prepend_name _ _ c.wire-wire.ensures.name c.requires.is c.requires.room)
    (prepended _ c.args.label.now _ _ _ _ c.wire-wire.ensures.wire c.write_at.ensures c.write_at-2.ensures
    c.write_at-3.ensures)
    (omega (arith, ap length c.wire-wire.ensures.wire, length-append c.args.label.now (wire_of c.args.above.now)))
