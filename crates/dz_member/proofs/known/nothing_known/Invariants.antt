use Rattle.std.proofs.Common.{◌≡◌, replicate}
use Rattle.std.specs.Prelude.{None}
use Rattle.dz_member.proofs.known.nothing_known.Given as goal

abbrev pub invariant-catalogs : goal.invariant-catalogs
invariant-catalogs l = l.known.items ≡ replicate l._place None
