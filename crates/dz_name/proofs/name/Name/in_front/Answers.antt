use Rattle.std.proofs.Common.{arith, ◌≡◌, ◌+◌, ◌-◌, ◌<◌, ◌≤◌, ◌++◌, ◌∙◌, sym, ap, refl, length, take, Some}
use Rattle.dz_name.specs.Name.{wire_of}
use Rattle.dz_name.proofs.FrontLemmas.{joined_length, joined_name, joined_padded, fits_in, fits_not}
use Rattle.dz_name.proofs.KeptLemmas.{kept_from, view_from}
use Rattle.dz_name.proofs.PartLemmas.{wire_drop_le}
use Rattle.dz_name.proofs.name.Name.in_front.Goals as goal

pub overflow_sub-size : goal.overflow_sub-size
overflow_sub-size c = omega (
  arith,
  ap length c.wire-wire.ensures.wire,
  ap length c.behind.ensures.wire,
  wire_drop_le c.args.count c.args.self.now,
)

pub returns-then-size-rest-gt-NAME_OCTETS : goal.returns-then-size-rest-gt-NAME_OCTETS
returns-then-size-rest-gt-NAME_OCTETS c =
    let long : 255 < length (wire_of (take c.args.count c.args.self.now ++ c.args.above.now)) =
    omega (
      arith,
      c.if-size-rest-gt-NAME_OCTETS.true,
      joined_length c.args.count c.args.self.now c.args.above.now,
      ap length c.wire-wire.ensures.wire,
      ap length c.behind.ensures.wire,
      ap length c.wire-rest.ensures.wire,
    ) in
    sym (fits_not (take c.args.count c.args.self.now ++ c.args.above.now) long)

pub invariant_of-result : goal.invariant_of-result
invariant_of-result c =
    let size : length c.wire-wire.result.now - length c.behind.result.now + length c.wire-rest.result.now
    ≡ length (wire_of (take c.args.count c.args.self.now ++ c.args.above.now)) =
    omega (
      arith,
      joined_length c.args.count c.args.self.now c.args.above.now,
      ap length c.wire-wire.ensures.wire,
      ap length c.behind.ensures.wire,
      ap length c.wire-rest.ensures.wire,
    ) in
    let few : length (wire_of (take c.args.count c.args.self.now ++ c.args.above.now)) ≤ 255 =
    omega (arith, c.if-size-rest-gt-NAME_OCTETS.false, size) in
    kept_from (take c.args.count c.args.self.now ++ c.args.above.now) _ _
    (joined_name c.args.count c.args.self.now c.args.above.now c.wire-wire.ensures.name c.wire-rest.ensures.name few)
    (joined_padded c.args.count c.args.self.now c.args.above.now c.wire-wire.result.now c.wire-rest.result.now
    c.behind.result.now _ _ _ _ c.wire-wire.ensures.wire c.behind.ensures.wire c.wire-rest.ensures.wire
    refl c.split_at.ensures.front c.write_at.ensures c.write_at-2.ensures) size

pub returns : goal.returns
returns c =
    let size : length c.wire-wire.result.now - length c.behind.result.now + length c.wire-rest.result.now
    ≡ length (wire_of (take c.args.count c.args.self.now ++ c.args.above.now)) =
    omega (
      arith,
      joined_length c.args.count c.args.self.now c.args.above.now,
      ap length c.wire-wire.ensures.wire,
      ap length c.behind.ensures.wire,
      ap length c.wire-rest.ensures.wire,
    ) in
    let few : length (wire_of (take c.args.count c.args.self.now ++ c.args.above.now)) ≤ 255 =
    omega (arith, c.if-size-rest-gt-NAME_OCTETS.false, size) in
    ap Some (view_from (take c.args.count c.args.self.now ++ c.args.above.now) _ _ (joined_name c.args.count
    c.args.self.now c.args.above.now c.wire-wire.ensures.name c.wire-rest.ensures.name few)
    (joined_padded c.args.count c.args.self.now c.args.above.now c.wire-wire.result.now c.wire-rest.result.now
    c.behind.result.now _ _ _ _ c.wire-wire.ensures.wire c.behind.ensures.wire c.wire-rest.ensures.wire
    refl c.split_at.ensures.front c.write_at.ensures c.write_at-2.ensures) size)
    ∙ sym (fits_in (take c.args.count c.args.self.now ++ c.args.above.now) few)
