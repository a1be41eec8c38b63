use Rattle.std.proofs.Common.{◌∙◌, sym, ap, subst, arith, length}
use Rattle.std.specs.Prelude.{T}
use Rattle.std.specs.FinMap.{find, is_sorted}
use Rattle.dz_chunks.proofs.ChunkLemmas.{seen_sorted, seen_find, seen_past}
use Rattle.dz_chunks.proofs.JoinLemmas.{seen_length, length_short, few_chunks}
use Rattle.dz_chunks.proofs.SearchLemmas.{takes_at_most}
use Rattle.dz_chunks.proofs.among.value_among.Goals as goal

pub value_of-requires-clause-sorted : goal.value_of-requires-clause-sorted
value_of-requires-clause-sorted g c =
    subst (λ es. T (is_sorted g.K.Ord.cmp es)) (sym (c.entries.ensures ∙ c.index-chunks-at.is))
    (seen_sorted g.K.Ord.cmp g.met.K.Ord.total c.args.key.now c.args.chunks.now c.count_before-at.result
    c.index-chunks-at.result c.requires c.if-at-chunks.true)

pub returns-then-at-chunks-clause-value : goal.returns-then-at-chunks-clause-value
returns-then-at-chunks-clause-value g c =
    c.value_of.ensures.value ∙ (ap (find g.K.Ord.cmp c.args.key.now) (c.entries.ensures ∙ c.index-chunks-at.is)
    ∙ seen_find g.K.Ord.cmp g.met.K.Ord.total c.args.key.now c.args.chunks.now c.count_before-at.result
    c.index-chunks-at.result c.if-at-chunks.true c.count_before-at.ensures.before c.count_before-at.ensures.behind)

pub returns-else-at-chunks-clause-value : goal.returns-else-at-chunks-clause-value
returns-else-at-chunks-clause-value g c =
    seen_past g.K.Ord.cmp g.met.K.Ord.total c.args.key.now c.args.chunks.now c.count_before-at.result
    c.if-at-chunks.false c.count_before-at.ensures.before

pub value_of-requires-clause-short : goal.value_of-requires-clause-short
value_of-requires-clause-short g c =
    let size = seen_length c.args.chunks.now c.count_before-at.result c.index-chunks-at.result c.if-at-chunks.true in
    let short = length_short c.args.chunks.now c.count_before-at.result c.requires.sized in
    omega (arith, size, short, ap length (c.entries.ensures ∙ c.index-chunks-at.is))

pub returns-then-at-chunks-clause-cost : goal.returns-then-at-chunks-clause-cost
returns-then-at-chunks-clause-cost g c =
    takes_at_most _ _ _ _ _ (few_chunks c.args.chunks.now c.requires.sized) c.count_before-at.ensures.cost
    (omega (arith, c.value_of.ensures.cost))

pub returns-else-at-chunks-clause-cost : goal.returns-else-at-chunks-clause-cost
returns-else-at-chunks-clause-cost g c =
    takes_at_most _ _ _ _ _ (few_chunks c.args.chunks.now c.requires.sized) c.count_before-at.ensures.cost
    (omega arith)
