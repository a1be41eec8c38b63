use Rattle.std.proofs.Common.{◌∙◌, ◌<◌, sym, ap, arith, length, not}
use Rattle.std.specs.Ordering.{is_gt}
use Rattle.dz_chunks.specs.inner.Chunked.{begins_upto}
use Rattle.dz_chunks.proofs.MarkLemmas.{led_some, begins_first}
use Rattle.dz_chunks.proofs.chunk.Chunk.first_is_upto.Goals as goal

pub bounds-entries-0 : goal.bounds-entries-0
bounds-entries-0 g c =
    let some = led_some g.K.Ord.cmp g.K.Lead.lead _ _ c.self.invariant in
    omega (arith, some, ap length c.self.view_is, ap length c.entries-entries.ensures)

pub returns-clause-value : goal.returns-clause-value
returns-clause-value g c =
    let some = led_some g.K.Ord.cmp g.K.Lead.lead _ _ c.self.invariant in
    let more : 0 < length c.entries-entries.result.now =
    omega (arith, some, ap length c.self.view_is, ap length c.entries-entries.ensures) in
    ap not (c.is_gt.ensures
    ∙ (ap is_gt c.compare.ensures.value ∙ ap (λ e. is_gt (g.K.Ord.cmp e.0 c.args.key.now)) c.index-entries-0.is))
    ∙ (sym (begins_first g.K.Ord.cmp c.args.key.now c.entries-entries.result.now c.index-entries-0.result more)
    ∙ ap (begins_upto g.K.Ord.cmp c.args.key.now) c.entries-entries.ensures)
