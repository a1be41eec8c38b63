use Rattle.std.proofs.Common.{◌≡◌}
use Rattle.dz_member.specs.inner.Members.{entries_of}
use Rattle.dz_member.proofs.members.entries_of.Given as goal

abbrev pub invariant-memberships : goal.invariant-memberships
invariant-memberships l = l.entries.items ≡ entries_of l.yielded
