use Rattle.std.proofs.Common.{◌≡◌, ◌-◌, ◌++◌, ◌∷◌, [], length, reverse, ◌∙◌, ap, arith}
use Rattle.std.proofs.lemmas.List.{length-drop}
use Rattle.dz_chunks.specs.Chunked.{flat}
use Rattle.dz_chunks.proofs.CutLemmas.{cut_more, full_more}
use Rattle.dz_chunks.proofs.cut.cut_full.Goals as goal

pub chunks-preserved : goal.chunks-preserved
chunks-preserved g c =
    let at = c.len-in-chunks.result - 128 in
    let old = c.chunks.chunks.items in
    let more = c.in_ok-push_chunk.ensures ∙ ap (λ last. old ++ last ∷ []) c.in_ok-last.ensures.tail in
    let long = length-drop at c.chunks.rest.items in
    let size : length c.in_ok-last.last.items ≡ 128 = ap length c.in_ok-last.ensures.tail
    ∙ omega (arith, long, c.len-in-chunks.ensures, c.chunks-test.true, c.len.ensures, c.chunks.rest.ok) in
    record {
      entries = ap (λ front. front ++ flat (reverse c.push_chunk.new.chunks.items)) c.in_ok-last.ensures.items
          ∙ cut_more c.chunks.rest.items at old _ _ more c.chunks.invariant.entries;
      full = full_more c.in_ok-last.last.items old _ c.in_ok-push_chunk.ensures size c.chunks.invariant.full;
    }
