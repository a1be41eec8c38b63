use Rattle.std.proofs.Common.{◌≡◌, ◌++◌, reverse, length}
use Rattle.dz_chunks.specs.Chunked.{flat}
use Rattle.dz_chunks.specs.inner.Chunked.{AreFull}
use Rattle.dz_chunks.proofs.cut.cut_full.Given as goal

abbrev pub invariant-chunks : goal.invariant-chunks
invariant-chunks g l = record {
  entries : l.rest.items ++ flat (reverse l.chunks.items) ≡ l.fn.rest.items;
  full : AreFull (reverse l.chunks.items);
}

abbrev pub decreases-chunks : goal.decreases-chunks
decreases-chunks g l = length l.rest.items
