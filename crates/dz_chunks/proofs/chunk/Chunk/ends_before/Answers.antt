use Rattle.std.proofs.Common.{◌∙◌, ◌<◌, sym, ap, arith, length, ◌-◌}
use Rattle.std.specs.Ordering.{is_lt}
use Rattle.dz_chunks.specs.inner.Chunked.{ends_before}
use Rattle.dz_chunks.proofs.ChunkLemmas.{ends_in_last}
use Rattle.dz_chunks.proofs.MarkLemmas.{led_some}
use Rattle.dz_chunks.proofs.chunk.Chunk.ends_before.Goals as goal

pub overflow_sub-len : goal.overflow_sub-len
overflow_sub-len g c =
    let some = led_some g.K.Ord.cmp g.K.Lead.lead _ _ c.self.invariant in
    omega (arith, some, ap length c.self.view_is, ap length c.entries-entries.ensures)

pub bounds-entries-len : goal.bounds-entries-len
bounds-entries-len g c =
    let some = led_some g.K.Ord.cmp g.K.Lead.lead _ _ c.self.invariant in
    omega (arith, some, ap length c.self.view_is, ap length c.entries-entries.ensures)

pub returns-clause-value : goal.returns-clause-value
returns-clause-value g c =
    let some = led_some g.K.Ord.cmp g.K.Lead.lead _ _ c.self.invariant in
    let more : 0 < length c.entries-entries.result.now =
    omega (arith, some, ap length c.self.view_is, ap length c.entries-entries.ensures) in
    c.is_lt.ensures
    ∙ (ap is_lt c.compare.ensures.value ∙ (ap (λ e. is_lt (g.K.Ord.cmp e.0 c.args.key.now)) c.index-entries-len.is
    ∙ (sym (ends_in_last g.K.Ord.cmp g.met.K.Ord.total c.args.key.now c.entries-entries.result.now
    (length c.entries-entries.result.now - 1) c.index-entries-len.result (omega (arith, more)))
    ∙ ap (ends_before g.K.Ord.cmp c.args.key.now) c.entries-entries.ensures)))
