use Rattle.std.proofs.Common.{◌≡◌, ◌+◌, ◌≤◌, length, take, ◌-◌}
use Rattle.std.specs.Prelude.{reverse}
use Rattle.dz_name.specs.Name.{wire_of, IsName}
use Rattle.dz_name.specs.inner.Starts.{offset_of}
use Rattle.dz_index.specs.SortKey.{keys_of}
use Rattle.dz_index.proofs.sort_key.SortKey.set.Given as goal

abbrev pub invariant-labels : goal.invariant-labels
invariant-labels l = record {
  wire : l.wire ≡ wire_of l.name;
  name : IsName l.name;
  at : l.place ≡ offset_of l.name l.count;
  count : l.count ≤ length l.name;
  key : l.self ≡ keys_of (reverse (take l.count l.name));
  room : length l.self ≤ l.place + l.place;
}

abbrev pub decreases-labels : goal.decreases-labels
decreases-labels l = length l.name - l.count
