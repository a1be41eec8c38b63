use Rattle.std.proofs.Common.{◌≡◌, ◌+◌, ◌++◌, take}
use Rattle.dz_chunks.proofs.entries.copy_entries.Given as goal

abbrev pub invariant-loop-entry : goal.invariant-loop-entry
invariant-loop-entry g l = record {
  copied : l.copies.items ≡ l.fn.copies.items ++ take l.entry-index l.entries;
  counted : l.steps ≡ l.fn.steps + l.entry-index;
}
