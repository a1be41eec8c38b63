use Rattle.std.proofs.Common.{◌≡◌, take}
use Rattle.dz_index.specs.Rows.{IsIndex, total}
use Rattle.dz_index.proofs.index.index_over.Given as goal

-- the index of the owners so far
abbrev pub invariant-owners : goal.invariant-owners
invariant-owners g l = record {
  is : IsIndex (take l.owner-index l.fn.owners.items) l.index;
  long : total l.index ≡ l.owner-index;
}
