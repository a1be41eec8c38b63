use Rattle.std.proofs.Common.{◌≡◌}
use Rattle.dz_member.specs.inner.Nodes.{entries_of}
use Rattle.dz_member.proofs.nodes.entries_of.Given as goal

abbrev pub invariant-nodes : goal.invariant-nodes
invariant-nodes l = l.entries.items ≡ entries_of l.yielded
