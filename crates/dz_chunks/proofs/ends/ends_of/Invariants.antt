use Rattle.std.proofs.Common.{◌≡◌, length, take}
use Rattle.dz_chunks.specs.Chunked.{flat}
use Rattle.dz_chunks.specs.inner.Ranked.{ends_after}
use Rattle.dz_chunks.proofs.ends.ends_of.Given as goal

abbrev pub invariant-loop-chunk : goal.invariant-loop-chunk
invariant-loop-chunk g l = record {
  counted : l.ends.items ≡ ends_after 0 (take l.chunk-index l.chunks);
  end : l.end ≡ length (flat (take l.chunk-index l.chunks));
}
