-- Judge: how many chunks a map has.
use Rattle.std.specs.Prelude.{ℕ, ◌+◌, ◌≤◌, ◌/◌, List, length}
use Rattle.dz_chunks.specs.Chunked.{flat, AreChunks}

-- n entries are in at most n / 64 + 1 chunks
abbrev pub FewChunks : Type 0 → Type 0
FewChunks Entry = (chunks : List (List Entry)) → AreChunks chunks → length chunks ≤ length (flat chunks) / 64 + 1
