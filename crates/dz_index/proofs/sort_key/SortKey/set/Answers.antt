use Rattle.std.proofs.Common.{arith, ◌∙◌, ap, length, refl}
use Rattle.dz_name.proofs.OrderLemmas.{offset_lt, more_at, all_at, few_labels}
use Rattle.dz_index.proofs.KeyLemmas.{key_next, key_whole, key_none, label_room, next_place, room_next}
use Rattle.dz_index.proofs.sort_key.SortKey.set.Goals as goal

pub labels-init : goal.labels-init
labels-init c = record {
  wire = c.wire-wire.ensures.wire;
  name = c.wire-wire.ensures.name;
  at = omega arith;
  count = omega arith;
  key = c.clear.ensures ∙ key_none c.args.name.now;
  room = omega (arith, ap length c.clear.ensures);
}

pub bounds-wire-place : goal.bounds-wire-place
bounds-wire-place c = rw (c.labels.invariant.wire, c.labels.invariant.at) (offset_lt _ _)

pub slice_bounds-prepend_label-end : goal.slice_bounds-prepend_label-end
slice_bounds-prepend_label-end c =
    omega (
      arith,
      label_room c.args.name.now c.wire-wire.result.now c.labels.place c.labels.count
          c.labels.invariant.wire c.labels.invariant.at c.labels.invariant.count,
    )

pub overflow_add-count : goal.overflow_add-count
overflow_add-count c = omega (arith, few_labels _ c.labels.invariant.name)

pub labels-smaller : goal.labels-smaller
labels-smaller c =
    omega (
      arith,
      more_at _ _ _ _ c.labels.invariant.name c.labels.invariant.wire c.labels.invariant.at
          c.labels.invariant.count c.labels-test.true,
    )

pub labels-preserved : goal.labels-preserved
labels-preserved c =
    let more = more_at _ _ _ _ c.labels.invariant.name c.labels.invariant.wire c.labels.invariant.at
    c.labels.invariant.count c.labels-test.true in
    record {
      wire = c.labels.invariant.wire;
      name = c.labels.invariant.name;
      at = next_place c.args.name.now c.wire-wire.result.now c.labels.place c.labels.count c.labels.invariant.wire
          c.labels.invariant.at more;
      count = omega arith;
      key = key_next c.args.name.now c.wire-wire.result.now c.labels.self _ _ c.labels.place c.labels.count
          c.labels.invariant.wire c.labels.invariant.at more c.labels.invariant.key refl c.prepend_label.ensures;
      room = room_next _ _ _ _ _ c.labels.invariant.room c.prepend_label.ensures;
    }

pub returns : goal.returns
returns c = key_whole _ _ _ (all_at _ _ _ _ c.labels.invariant.name c.labels.invariant.wire c.labels.invariant.at
    c.labels.invariant.count c.labels-test.false) c.labels.invariant.key
