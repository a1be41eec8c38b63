use Rattle.std.proofs.Common.{◌≡◌, ◌+◌, ◌-◌, ◌≤◌, ◌++◌, [], length, take, drop}
use Rattle.dz_index.specs.SortKey.{label_before}
use Rattle.dz_index.proofs.owner_key.append_label.Given as goal

-- what is written, and the rest of the label after it, is the whole
abbrev pub invariant-octets : goal.invariant-octets
invariant-octets l = record {
  key : take l.end l.octets ++ label_before (drop l.octet-index l.label) []
      ≡ take l.fn.begin l.fn.octets ++ label_before l.label [];
  behind : l.fn.begin ≤ l.end;
  room : l.end + (length l.label - l.octet-index + (length l.label - l.octet-index) + 1) ≤ 512;
}
