use Rattle.std.proofs.Common.{◌≡◌, ◌+◌, ◌++◌, take}
use Rattle.dz_chunks.proofs.among.copy_chunks.Given as goal

abbrev pub invariant-loop-chunk : goal.invariant-loop-chunk
invariant-loop-chunk g l = record {
  copied : l.copies.items ≡ l.fn.copies.items ++ take l.chunk-index l.chunks;
  counted : l.steps ≡ l.fn.steps + l.chunk-index;
}
