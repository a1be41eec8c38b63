use Rattle.std.proofs.Common.{◌∙◌, sym, ap, subst, arith, length}
use Rattle.std.specs.Prelude.{T}
use Rattle.std.specs.FinMap.{is_sorted}
use Rattle.dz_chunks.specs.Map.{without_key}
use Rattle.dz_chunks.proofs.EntryLemmas.{ok_then, ok_with}
use Rattle.dz_chunks.proofs.ChunkLemmas.{seen_sorted, seen_without, chunked_without, without_shorter}
use Rattle.dz_chunks.proofs.JoinLemmas.{seen_length, length_short, few_chunks}
use Rattle.dz_chunks.proofs.SearchLemmas.{takes_at_most}
use Rattle.dz_chunks.proofs.chunks.chunks_without.Goals as goal

pub without_entry-requires-clause-sorted : goal.without_entry-requires-clause-sorted
without_entry-requires-clause-sorted g c =
    let part = c.entries.ensures ∙ c.index-chunks-at.is in
    subst (λ es. T (is_sorted g.K.Ord.cmp es)) (sym part) (seen_sorted g.K.Ord.cmp g.met.K.Ord.total c.args.key.now
    c.args.chunks.now c.chunk_for-at.result c.index-chunks-at.result c.requires c.chunk_for-at.ensures.within)

pub without_entry-requires-clause-short : goal.without_entry-requires-clause-short
without_entry-requires-clause-short g c =
    let part = c.entries.ensures ∙ c.index-chunks-at.is in
    let size =
    seen_length c.args.chunks.now c.chunk_for-at.result c.index-chunks-at.result c.chunk_for-at.ensures.within in
    let short = length_short c.args.chunks.now c.chunk_for-at.result c.requires.sized in
    omega (arith, size, short, ap length part)

pub returns-in_err-entries-clause-entry_cost : goal.returns-in_err-entries-clause-entry_cost
returns-in_err-entries-clause-entry_cost g c =
    let part = c.entries.ensures ∙ c.index-chunks-at.is in
    let size =
    seen_length c.args.chunks.now c.chunk_for-at.result c.index-chunks-at.result c.chunk_for-at.ensures.within in
    let short = length_short c.args.chunks.now c.chunk_for-at.result c.requires.sized in
    omega (arith, size, short, ap length part, c.without_entry.ensures.cost)

pub rebuilt-requires-clause-short : goal.rebuilt-requires-clause-short
rebuilt-requires-clause-short g c =
    let part = c.entries.ensures ∙ c.index-chunks-at.is in
    let sorted =
    subst (λ es. T (is_sorted g.K.Ord.cmp es)) (sym part) (seen_sorted g.K.Ord.cmp g.met.K.Ord.total c.args.key.now
    c.args.chunks.now c.chunk_for-at.result c.index-chunks-at.result c.requires c.chunk_for-at.ensures.within) in
    let size =
    seen_length c.args.chunks.now c.chunk_for-at.result c.index-chunks-at.result c.chunk_for-at.ensures.within in
    let short = length_short c.args.chunks.now c.chunk_for-at.result c.requires.sized in
    let longer = without_shorter g.K.Ord.cmp g.met.K.Ord.total c.args.key.now c.entries.result.now sorted in
    omega (arith, size, short, ap length part, longer.1, ap length c.in_ok-entries.ensures.left)

pub rebuilt-requires-clause-near : goal.rebuilt-requires-clause-near
rebuilt-requires-clause-near g c =
    let part = c.entries.ensures ∙ c.index-chunks-at.is in
    let sorted =
    subst (λ es. T (is_sorted g.K.Ord.cmp es)) (sym part) (seen_sorted g.K.Ord.cmp g.met.K.Ord.total c.args.key.now
    c.args.chunks.now c.chunk_for-at.result c.index-chunks-at.result c.requires c.chunk_for-at.ensures.within) in
    let size =
    seen_length c.args.chunks.now c.chunk_for-at.result c.index-chunks-at.result c.chunk_for-at.ensures.within in
    let short = length_short c.args.chunks.now c.chunk_for-at.result c.requires.sized in
    let longer = without_shorter g.K.Ord.cmp g.met.K.Ord.total c.args.key.now c.entries.result.now sorted in
    omega (arith, size, short, ap length part, longer.0, ap length c.in_ok-entries.ensures.left)

pub returns-clause-map : goal.returns-clause-map
returns-clause-map g c =
    let part = c.entries.ensures ∙ c.index-chunks-at.is in
    ok_then _ _ c.rebuilt.result c.rebuilt.ensures.entries
    (λ v n. seen_without g.K.Ord.cmp g.met.K.Ord.total c.args.key.now c.args.chunks.now
    v.items c.chunk_for-at.result c.index-chunks-at.result c.in_ok-entries.entries.items
    c.chunk_for-at.ensures.within c.chunk_for-at.ensures.before c.chunk_for-at.ensures.behind
    (c.in_ok-entries.ensures.left ∙ ap (without_key g.K.Ord.cmp c.args.key.now) part) n)

pub returns-clause-chunked : goal.returns-clause-chunked
returns-clause-chunked g c =
    let part = c.entries.ensures ∙ c.index-chunks-at.is in
    ok_with _ _ _ c.rebuilt.result c.rebuilt.ensures.entries c.rebuilt.ensures.sized
    (λ v n z. chunked_without g.K.Ord.cmp g.met.K.Ord.total c.args.key.now c.args.chunks.now v.items c.requires z
    (seen_without g.K.Ord.cmp g.met.K.Ord.total c.args.key.now c.args.chunks.now v.items
    c.chunk_for-at.result c.index-chunks-at.result c.in_ok-entries.entries.items
    c.chunk_for-at.ensures.within c.chunk_for-at.ensures.before c.chunk_for-at.ensures.behind
    (c.in_ok-entries.ensures.left ∙ ap (without_key g.K.Ord.cmp c.args.key.now) part) n))

pub returns-clause-entry_cost : goal.returns-clause-entry_cost
returns-clause-entry_cost g c =
    let part = c.entries.ensures ∙ c.index-chunks-at.is in
    let size =
    seen_length c.args.chunks.now c.chunk_for-at.result c.index-chunks-at.result c.chunk_for-at.ensures.within in
    let short = length_short c.args.chunks.now c.chunk_for-at.result c.requires.sized in
    omega (arith, size, short, ap length part, c.without_entry.ensures.cost, c.rebuilt.ensures.entry_cost)

pub returns-in_err-entries-clause-comparisons : goal.returns-in_err-entries-clause-comparisons
returns-in_err-entries-clause-comparisons g c =
    takes_at_most _ _ _ _ _ (few_chunks c.args.chunks.now c.requires.sized) c.chunk_for-at.ensures.cost
    (omega (arith, c.without_entry.ensures.comparisons))

pub returns-clause-comparisons : goal.returns-clause-comparisons
returns-clause-comparisons g c =
    takes_at_most _ _ _ _ _ (few_chunks c.args.chunks.now c.requires.sized) c.chunk_for-at.ensures.cost
    (omega (arith, c.without_entry.ensures.comparisons, c.rebuilt.ensures.comparisons))
