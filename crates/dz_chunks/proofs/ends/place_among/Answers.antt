use Rattle.std.proofs.Common.{◌∙◌, sym, ap, subst, arith, length}
use Rattle.std.specs.Prelude.{T}
use Rattle.std.specs.FinMap.{is_sorted}
use Rattle.dz_chunks.specs.Map.{place_in}
use Rattle.dz_chunks.proofs.ChunkLemmas.{seen_sorted}
use Rattle.dz_chunks.proofs.JoinLemmas.{seen_length, length_short, few_chunks}
use Rattle.dz_chunks.proofs.RankLemmas.{ends_count, end_at, chunk_past, chunk_missing, chunk_found}
use Rattle.dz_chunks.proofs.SearchLemmas.{takes_at_most}
use Rattle.dz_chunks.proofs.ends.place_among.Goals as goal

pub returns-then-at-chunks-clause-value : goal.returns-then-at-chunks-clause-value
returns-then-at-chunks-clause-value g c =
    chunk_past g.K.Ord.cmp g.met.K.Ord.total c.args.key.now c.args.chunks.now c.count_before-at.result
    c.count_before-at.ensures.before (omega (arith, c.if-at-chunks.true))

pub returns-then-at-chunks-clause-cost : goal.returns-then-at-chunks-clause-cost
returns-then-at-chunks-clause-cost g c =
    takes_at_most _ _ _ _ _ (few_chunks c.args.chunks.now c.requires.chunked.sized) c.count_before-at.ensures.cost
    (omega arith)

pub place_in-requires-clause-sorted : goal.place_in-requires-clause-sorted
place_in-requires-clause-sorted g c =
    subst (λ es. T (is_sorted g.K.Ord.cmp es)) (sym (c.entries-entries.ensures ∙ c.index-chunks-at.is))
    (seen_sorted g.K.Ord.cmp g.met.K.Ord.total c.args.key.now c.args.chunks.now c.count_before-at.result
    c.index-chunks-at.result c.requires.chunked (omega (arith, c.if-at-chunks.false, c.count_before-at.ensures.within)))

pub place_in-requires-clause-short : goal.place_in-requires-clause-short
place_in-requires-clause-short g c =
    let size = seen_length c.args.chunks.now c.count_before-at.result c.index-chunks-at.result
    (omega (arith, c.if-at-chunks.false, c.count_before-at.ensures.within)) in
    let short = length_short c.args.chunks.now c.count_before-at.result c.requires.chunked.sized in
    omega (arith, size, short, ap length (c.entries-entries.ensures ∙ c.index-chunks-at.is))

pub bounds-ends-at : goal.bounds-ends-at
bounds-ends-at g c =
    omega (
      arith,
      c.if-at-chunks.false,
      c.count_before-at.ensures.within,
      ap length c.requires.counted,
      ends_count c.args.chunks.now 0,
    )

pub overflow_sub-result-in-Some : goal.overflow_sub-result-in-Some
overflow_sub-result-in-Some g c =
    let end = end_at c.args.chunks.now c.count_before-at.result 0 c.index-chunks-at.result 0
    (omega (arith, c.if-at-chunks.false, c.count_before-at.ensures.within)) in
    let size = ap length (c.entries-entries.ensures ∙ c.index-chunks-at.is) in
    rw c.requires.counted (omega (arith, end, size))

pub returns-in-None-clause-value : goal.returns-in-None-clause-value
returns-in-None-clause-value g c =
    chunk_missing g.K.Ord.cmp g.met.K.Ord.total c.args.key.now c.args.chunks.now c.count_before-at.result
    c.count_before-at.ensures.before c.index-chunks-at.result
    (omega (arith, c.if-at-chunks.false, c.count_before-at.ensures.within)) c.count_before-at.ensures.behind
    (c.in-None.ensures.value ∙ ap (place_in g.K.Ord.cmp c.args.key.now) (c.entries-entries.ensures ∙ c.index-chunks-at.is))

pub returns-in-Some-clause-value : goal.returns-in-Some-clause-value
returns-in-Some-clause-value g c =
    let part = c.entries-entries.ensures ∙ c.index-chunks-at.is in
    rw (c.requires.counted, part) (chunk_found g.K.Ord.cmp g.met.K.Ord.total c.args.key.now c.args.chunks.now
    c.count_before-at.result c.count_before-at.ensures.before c.index-chunks-at.result 0 c.in-Some.place
    (omega (arith, c.if-at-chunks.false, c.count_before-at.ensures.within)) c.count_before-at.ensures.behind
    (c.in-Some.ensures.value ∙ ap (place_in g.K.Ord.cmp c.args.key.now) part))

pub returns-in-None-clause-cost : goal.returns-in-None-clause-cost
returns-in-None-clause-cost g c =
    takes_at_most _ _ _ _ _ (few_chunks c.args.chunks.now c.requires.chunked.sized) c.count_before-at.ensures.cost
    (omega (arith, c.place_in.ensures.cost))

pub returns-in-Some-clause-cost : goal.returns-in-Some-clause-cost
returns-in-Some-clause-cost g c =
    takes_at_most _ _ _ _ _ (few_chunks c.args.chunks.now c.requires.chunked.sized) c.count_before-at.ensures.cost
    (omega (arith, c.place_in.ensures.cost))
