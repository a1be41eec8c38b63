use Rattle.std.proofs.Common.{arith, ◌<◌, ◌∙◌, ap, length, List, ℕ, ◌++◌}
use Rattle.std.specs.Prelude.{slice_range}
use Rattle.dz_index.specs.inner.Parts.{parts_of}
use Rattle.dz_index.proofs.PartLemmas.{parts_length, run_within, run_room, run_bounds, run_added}
use Rattle.dz_index.proofs.keys.Keys.with_run.Goals as goal

pub overflow_add-theirs : goal.overflow_add-theirs
overflow_add-theirs c =
    let long = parts_length c.other.inside.octets.items c.other.inside.bounds.items c.other.invariant.some in
    omega (arith, long, ap length c.other.view_is, c.requires.within, c.deref.ensures.len)

pub offset_bounds-deref-from : goal.offset_bounds-deref-from
offset_bounds-deref-from c =
    let long = parts_length c.other.inside.octets.items c.other.inside.bounds.items c.other.invariant.some in
    omega (
      arith,
      long,
      ap length c.other.view_is,
      c.requires.within,
      c.requires.order,
      c.deref.ensures.len,
      ap length c.deref.ensures.value,
    )

pub slice_bounds-theirs-end : goal.slice_bounds-theirs-end
slice_bounds-theirs-end c =
    let long = parts_length c.other.inside.octets.items c.other.inside.bounds.items c.other.invariant.some in
    omega
    (arith, long, ap length c.other.view_is, c.requires.within, c.requires.order, ap length c.deref.ensures.value)

pub extend_parts-requires-clause-bounds : goal.extend_parts-requires-clause-bounds
extend_parts-requires-clause-bounds c =
    let long = parts_length c.other.inside.octets.items c.other.inside.bounds.items c.other.invariant.some in
    let within : c.args.to < length c.other.inside.bounds.items =
    omega (arith, long, ap length c.other.view_is, c.requires.within) in
    rw (c.as_slice.ensures.value, c.deref.ensures.value)
    (run_within c.self.inside.octets.items c.self.inside.bounds.items c.other.inside.octets.items
    c.other.inside.bounds.items c.args.from c.args.to c.self.invariant c.other.invariant c.requires.order within)

pub extend_parts-requires-clause-room : goal.extend_parts-requires-clause-room
extend_parts-requires-clause-room c =
    let long = parts_length c.other.inside.octets.items c.other.inside.bounds.items c.other.invariant.some in
    let mine = parts_length c.self.inside.octets.items c.self.inside.bounds.items c.self.invariant.some in
    let within : c.args.to < length c.other.inside.bounds.items =
    omega (arith, long, ap length c.other.view_is, c.requires.within) in
    let room = run_room c.self.inside.octets.items c.self.inside.bounds.items c.other.inside.octets.items
    c.other.inside.bounds.items c.args.from c.args.to c.self.invariant c.other.invariant c.requires.order within in
    rw c.deref.ensures.value (omega (arith, room, mine, ap length c.self.view_is, c.requires.few))

pub invariant_of-result : goal.invariant_of-result
invariant_of-result c =
    let long = parts_length c.other.inside.octets.items c.other.inside.bounds.items c.other.invariant.some in
    let within : c.args.to < length c.other.inside.bounds.items =
    omega (arith, long, ap length c.other.view_is, c.requires.within) in
    let octets = rw (c.as_slice.ensures.value, c.deref.ensures.value) at c.in_ok-extend_parts.ensures.octets in
    let bounds = rw c.deref.ensures.value at c.in_ok-extend_parts.ensures.bounds in
    rw (octets, bounds) (run_bounds c.self.inside.octets.items c.self.inside.bounds.items c.other.inside.octets.items
    c.other.inside.bounds.items c.args.from c.args.to c.self.invariant c.other.invariant c.requires.order within)

pub returns : goal.returns
returns c =
    let long = parts_length c.other.inside.octets.items c.other.inside.bounds.items c.other.invariant.some in
    let within : c.args.to < length c.other.inside.bounds.items =
    omega (arith, long, ap length c.other.view_is, c.requires.within) in
    let octets = rw (c.as_slice.ensures.value, c.deref.ensures.value) at c.in_ok-extend_parts.ensures.octets in
    let bounds = rw c.deref.ensures.value at c.in_ok-extend_parts.ensures.bounds in
    rw (octets, bounds) (run_added c.self.inside.octets.items c.self.inside.bounds.items c.other.inside.octets.items
    c.other.inside.bounds.items c.args.from c.args.to c.self.invariant c.other.invariant c.requires.order within)
    ∙ (ap (λ (keys : List (List ℕ)). keys ++ slice_range
    (parts_of c.other.inside.octets.items c.other.inside.bounds.items) c.args.from c.args.to) c.self.view_is
    ∙ ap (λ (keys : List (List ℕ)). c.args.self ++ slice_range keys c.args.from c.args.to) c.other.view_is)
