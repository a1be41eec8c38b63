use Rattle.std.proofs.Common.{◌∙◌, Some, sym, ap, subst, arith, length}
use Rattle.std.specs.List.Sorted.{IsNonDecreasing}
use Rattle.dz_chunks.proofs.RankLemmas.{ends_grow, ends_count, end_above, end_near, entry_is, none_at, pair_is}
use Rattle.dz_chunks.proofs.ends.value_at.Goals as goal

pub ended_upto-at-requires : goal.ended_upto-at-requires
ended_upto-at-requires g c = subst IsNonDecreasing (sym c.requires) (ends_grow c.args.chunks.now)

pub bounds-ends-at : goal.bounds-ends-at
bounds-ends-at g c = omega (arith, c.if-at-chunks.true, ap length c.requires, ends_count c.args.chunks.now 0)

pub overflow_sub-ends : goal.overflow_sub-ends
overflow_sub-ends g c =
    let above = end_above c.args.chunks.now c.args.place c.ended_upto-at.result (rw c.requires at c.ended_upto-at.ensures)
    0 c.if-at-chunks.true in
    rw c.requires (omega (arith, above))

pub overflow_sub-entries : goal.overflow_sub-entries
overflow_sub-entries g c =
    let near = end_near c.args.chunks.now c.args.place c.ended_upto-at.result (rw c.requires at c.ended_upto-at.ensures)
    c.index-chunks-at.result 0 c.if-at-chunks.true in
    let size = ap length (c.entries-entries.ensures ∙ c.index-chunks-at.is) in
    rw c.requires (omega (arith, near, size))

pub bounds-entries-entries : goal.bounds-entries-entries
bounds-entries-entries g c =
    let point = rw c.requires at c.ended_upto-at.ensures in
    let above = end_above c.args.chunks.now c.args.place c.ended_upto-at.result point 0 c.if-at-chunks.true in
    let near = end_near c.args.chunks.now c.args.place c.ended_upto-at.result point
    c.index-chunks-at.result 0 c.if-at-chunks.true in
    let size = ap length (c.entries-entries.ensures ∙ c.index-chunks-at.is) in
    rw c.requires (omega (arith, above, near, size))

pub returns-then-at-chunks : goal.returns-then-at-chunks
returns-then-at-chunks g c =
    ap Some (pair_is _ _ c.index-entries-entries.result (c.value.ensures.key) c.value.ensures.value)
    ∙ entry_is c.args.chunks.now c.args.place c.ended_upto-at.result (rw c.requires at c.ended_upto-at.ensures)
    c.index-chunks-at.result c.entries-entries.result.now c.args.ends.now c.index-entries-entries.result
    c.if-at-chunks.true (c.entries-entries.ensures ∙ c.index-chunks-at.is) c.requires c.index-entries-entries.is

pub returns-else-at-chunks : goal.returns-else-at-chunks
returns-else-at-chunks g c =
    none_at c.args.chunks.now c.args.place c.ended_upto-at.result (rw c.requires at c.ended_upto-at.ensures)
    (omega (arith, c.if-at-chunks.false))
