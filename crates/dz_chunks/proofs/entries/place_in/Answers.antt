use Rattle.std.proofs.Common.{arith, sym, ◌∙◌}
use Rattle.dz_chunks.proofs.RankLemmas.{place_found, place_missing}
use Rattle.dz_chunks.proofs.SearchLemmas.{in_chunk}
use Rattle.dz_chunks.proofs.entries.place_in.Goals as goal

pub returns-then-is_at-clause-value : goal.returns-then-is_at-clause-value
returns-then-is_at-clause-value g c =
    place_found g.K.Ord.cmp g.met.K.Ord.total c.args.key.now c.args.entries.now c.place_of-place.result
    c.place_of-place.ensures.before (sym c.is_at.ensures.value ∙ c.if-is_at.true)

pub returns-else-is_at-clause-value : goal.returns-else-is_at-clause-value
returns-else-is_at-clause-value g c =
    place_missing g.K.Ord.cmp g.met.K.Ord.total c.args.key.now c.args.entries.now c.place_of-place.result
    c.place_of-place.ensures.before c.requires.sorted c.place_of-place.ensures.here
    (sym c.is_at.ensures.value ∙ c.if-is_at.false)

pub returns-then-is_at-clause-cost : goal.returns-then-is_at-clause-cost
returns-then-is_at-clause-cost g c =
    omega (arith, c.is_at.ensures.cost, in_chunk _ _ c.requires.short c.place_of-place.ensures.cost)

pub returns-else-is_at-clause-cost : goal.returns-else-is_at-clause-cost
returns-else-is_at-clause-cost g c =
    omega (arith, c.is_at.ensures.cost, in_chunk _ _ c.requires.short c.place_of-place.ensures.cost)
