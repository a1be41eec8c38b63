use Rattle.std.proofs.Common.{◌<◌, ◌∙◌, ap, arith, length}
use Rattle.dz_chunks.proofs.RankLemmas.{ends_pushed, summed}
use Rattle.dz_chunks.proofs.JoinLemmas.{taken_length}
use Rattle.dz_chunks.proofs.ends.ends_of.Goals as goal

pub loop-chunk-preserved : goal.loop-chunk-preserved
loop-chunk-preserved g c =
    let cs = c.args.chunks.now in
    let at = c.loop-chunk.chunk-index in
    let within : at < length cs = c.loop-chunk-test.true in
    let size = ap length (c.entries.ensures ∙ c.chunk-item.is) in
    let sum = summed c.checked_add.result _ _ c.in_ok-end.end c.checked_add.ensures c.in_ok-end.ensures.ok_part in
    record {
      counted = ends_pushed cs at c.chunk-item.result c.loop-chunk.ends.items c.push.new.self.items c.in_ok-end.end within
          c.loop-chunk.invariant.counted (omega (arith, sum, size, c.loop-chunk.invariant.end)) c.in_ok-push.ensures.items;
      end = omega (arith, sum, size, c.loop-chunk.invariant.end, taken_length cs at c.chunk-item.result within);
    }
