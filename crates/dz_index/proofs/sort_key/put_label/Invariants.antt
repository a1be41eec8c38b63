use Rattle.std.proofs.Common.{◌≡◌, ◌+◌, ◌<◌, ◌≤◌, length, drop}
use Rattle.dz_index.specs.SortKey.{label_before}
use Rattle.dz_index.proofs.sort_key.put_label.Given as goal

abbrev pub invariant-octets : goal.invariant-octets
invariant-octets l = record {
  within : l.left ≤ length l.label;
  low : l.begin < 512;
  key : drop l.begin l.octets ≡ label_before (drop l.left l.label) (drop l.fn.end l.fn.octets);
  room : l.left + l.left ≤ l.begin;
}

abbrev pub decreases-octets : goal.decreases-octets
decreases-octets l = l.left
