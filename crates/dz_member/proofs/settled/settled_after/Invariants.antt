use Rattle.std.proofs.Common.{◌≡◌, map}
use Rattle.std.specs.List.{range_with_len}
use Rattle.dz_member.specs.inner.Happened.{is_settled_after}
use Rattle.dz_member.proofs.settled.settled_after.Given as goal

abbrev pub invariant-catalogs : goal.invariant-catalogs
invariant-catalogs l = l.marks.items ≡ map (is_settled_after l.settled l.listed l.changes) (range_with_len 0 l.number)
