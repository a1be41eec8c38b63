use Rattle.std.proofs.Common.{◌≡◌, take}
use Rattle.std.specs.List.{AllByRecursion}
use Rattle.dz_member.specs.inner.Places.{IsAt, nodes_in}
use Rattle.dz_member.proofs.sort.all.Given as goal

abbrev pub invariant-nodes : goal.invariant-nodes
invariant-nodes l = (nodes_in l.all.items ≡ take l.place l.nodes) × AllByRecursion (IsAt l.nodes) l.all.items
