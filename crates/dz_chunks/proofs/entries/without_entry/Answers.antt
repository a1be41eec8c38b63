use Rattle.std.proofs.Common.{◌∙◌, arith, sym}
use Rattle.dz_chunks.proofs.EntryLemmas.{removed_is, unchanged_is, ok_into}
use Rattle.dz_chunks.proofs.SearchLemmas.{in_chunk}
use Rattle.dz_chunks.proofs.entries.without_entry.Goals as goal

pub returns-then-is_at-clause-left : goal.returns-then-is_at-clause-left
returns-then-is_at-clause-left g c =
    ok_into (λ v. v.items) c.removed.result _ _ c.removed.ensures.items
    (removed_is g.K.Ord.cmp g.met.K.Ord.total c.args.key.now c.args.entries.now c.place_of-place.result
    c.requires.sorted c.place_of-place.ensures.before (sym c.is_at.ensures.value ∙ c.if-is_at.true))

pub returns-else-is_at-clause-left : goal.returns-else-is_at-clause-left
returns-else-is_at-clause-left g c =
    ok_into (λ v. v.items) c.unchanged.result _ _ c.unchanged.ensures.items
    (unchanged_is g.K.Ord.cmp g.met.K.Ord.total c.args.key.now c.args.entries.now c.place_of-place.result
    c.requires.sorted c.place_of-place.ensures.before c.place_of-place.ensures.here
    (sym c.is_at.ensures.value ∙ c.if-is_at.false))

pub returns-then-is_at-clause-comparisons : goal.returns-then-is_at-clause-comparisons
returns-then-is_at-clause-comparisons g c =
    omega (arith, c.is_at.ensures.cost, in_chunk _ _ c.requires.short c.place_of-place.ensures.cost)

pub returns-else-is_at-clause-comparisons : goal.returns-else-is_at-clause-comparisons
returns-else-is_at-clause-comparisons g c =
    omega (arith, c.is_at.ensures.cost, in_chunk _ _ c.requires.short c.place_of-place.ensures.cost)
