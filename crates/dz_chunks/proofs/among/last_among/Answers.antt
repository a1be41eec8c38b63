use Rattle.std.proofs.Common.{◌∙◌, ◌-◌, arith, sym, ap, subst, length}
use Rattle.std.specs.Prelude.{T}
use Rattle.std.specs.FinMap.{is_sorted}
use Rattle.dz_chunks.specs.Map.{last_upto}
use Rattle.dz_chunks.specs.inner.Chunked.{begins_upto}
use Rattle.dz_chunks.proofs.ChunkLemmas.{seen_sorted}
use Rattle.dz_chunks.proofs.JoinLemmas.{seen_length, length_short, few_chunks}
use Rattle.dz_chunks.proofs.SearchLemmas.{takes_at_most}
use Rattle.dz_chunks.proofs.UptoLemmas.{seen_begins, seen_none, seen_last}
use Rattle.dz_chunks.proofs.among.last_among.Goals as goal

pub last_upto-requires-clause-sorted : goal.last_upto-requires-clause-sorted
last_upto-requires-clause-sorted g c =
    subst (λ es. T (is_sorted g.K.Ord.cmp es)) (sym c.index-chunks-count.is)
    (seen_sorted g.K.Ord.cmp g.met.K.Ord.total c.args.key.now c.args.chunks.now (c.count_of-count.result - 1)
    c.index-chunks-count.result c.requires (omega (arith, c.if-count-eq0.false, c.count_of-count.ensures.within)))

pub last_upto-requires-clause-short : goal.last_upto-requires-clause-short
last_upto-requires-clause-short g c =
    let at = c.count_of-count.result - 1 in
    let size = seen_length c.args.chunks.now
    at c.index-chunks-count.result (omega (arith, c.if-count-eq0.false, c.count_of-count.ensures.within)) in
    let short = length_short c.args.chunks.now at c.requires.sized in
    omega (arith, size, short, ap length c.index-chunks-count.is)

pub last_upto-requires-clause-upto : goal.last_upto-requires-clause-upto
last_upto-requires-clause-upto g c =
    let point = c.count_of-count.ensures.point
    (seen_begins g.K.Ord.cmp g.met.K.Ord.total c.args.key.now c.args.chunks.now c.requires) in
    ap (begins_upto g.K.Ord.cmp c.args.key.now) c.index-chunks-count.is ∙ point.0
    (c.count_of-count.result - 1) c.index-chunks-count.result (omega arith) (omega (arith, c.if-count-eq0.false))

pub returns-then-count-eq0-clause-value : goal.returns-then-count-eq0-clause-value
returns-then-count-eq0-clause-value g c =
    let point = c.count_of-count.ensures.point
    (seen_begins g.K.Ord.cmp g.met.K.Ord.total c.args.key.now c.args.chunks.now c.requires) in
    seen_none g.K.Ord.cmp g.met.K.Ord.total c.args.key.now c.args.chunks.now c.requires
    (λ j d low lt. point.1 j d (omega (arith, c.if-count-eq0.true)) lt)

pub returns-else-count-eq0-clause-value : goal.returns-else-count-eq0-clause-value
returns-else-count-eq0-clause-value g c =
    let point = c.count_of-count.ensures.point
    (seen_begins g.K.Ord.cmp g.met.K.Ord.total c.args.key.now c.args.chunks.now c.requires) in
    c.last_upto.ensures.value ∙ (ap (last_upto g.K.Ord.cmp c.args.key.now) c.index-chunks-count.is
    ∙ seen_last g.K.Ord.cmp g.met.K.Ord.total c.args.key.now c.args.chunks.now (c.count_of-count.result - 1)
    c.index-chunks-count.result c.requires (omega (arith, c.if-count-eq0.false, c.count_of-count.ensures.within))
    (point.0 (c.count_of-count.result - 1) c.index-chunks-count.result (omega arith)
    (omega (arith, c.if-count-eq0.false)))
    (λ j e low lt. point.1 j e (omega (arith, c.if-count-eq0.false)) lt))

pub returns-then-count-eq0-clause-cost : goal.returns-then-count-eq0-clause-cost
returns-then-count-eq0-clause-cost g c =
    takes_at_most _ _ _ _ _ (few_chunks c.args.chunks.now c.requires.sized) c.count_of-count.ensures.cost (omega arith)

pub returns-else-count-eq0-clause-cost : goal.returns-else-count-eq0-clause-cost
returns-else-count-eq0-clause-cost g c =
    takes_at_most _ _ _ _ _ (few_chunks c.args.chunks.now c.requires.sized) c.count_of-count.ensures.cost
    (omega (arith, c.last_upto.ensures.cost))
