use Rattle.std.proofs.Common.{arith, ◌∙◌, refl, ◌<◌, ◌+◌, length, get_or}
use Rattle.dz_name.proofs.KeptLemmas.{wire_some}
use Rattle.dz_name.proofs.WireLemmas.{is_wire, labels_of-wire}
use Rattle.dz_index.proofs.KeyLemmas.{label_room}
use Rattle.dz_index.proofs.OwnerKeyLemmas.{some_label, label_fits, owner_key}
use Rattle.dz_index.proofs.owner_key.OwnerKey.set.Goals as goal

pub bounds-wire-0 : goal.bounds-wire-0
bounds-wire-0 c = rw c.wire-wire.ensures.wire (wire_some _)

pub behind-requires : goal.behind-requires
behind-requires c = some_label _ _ c.wire-wire.ensures.name c.wire-wire.ensures.wire c.if-wire-eq0.false

pub of_wire-requires : goal.of_wire-requires
of_wire-requires c = is_wire _ _ c.behind.ensures.name c.behind.ensures.wire

pub slice_bounds-append-end : goal.slice_bounds-append-end
slice_bounds-append-end c =
    let within : 0 + get_or c.wire-wire.result.now 0 0 < length c.wire-wire.result.now =
    label_room c.args.owner.now c.wire-wire.result.now 0 0 c.wire-wire.ensures.wire (omega arith) (omega arith) in
    omega (arith, within)

pub append-requires : goal.append-requires
append-requires c =
    label_fits c.args.owner.now c.wire-wire.result.now _ _ c.wire-wire.ensures.name
    (some_label _ _ c.wire-wire.ensures.name c.wire-wire.ensures.wire c.if-wire-eq0.false)
    c.wire-wire.ensures.wire refl
    (rw (c.of_wire.ensures ∙ labels_of-wire _ _ c.behind.ensures.name c.behind.ensures.wire) at c.set_above.ensures)

pub returns : goal.returns
returns c =
    owner_key c.args.owner.now c.wire-wire.result.now _ _ _
    (some_label _ _ c.wire-wire.ensures.name c.wire-wire.ensures.wire c.if-wire-eq0.false)
    c.wire-wire.ensures.wire refl
    (rw (c.of_wire.ensures ∙ labels_of-wire _ _ c.behind.ensures.name c.behind.ensures.wire) at c.set_above.ensures)
    c.append.ensures
