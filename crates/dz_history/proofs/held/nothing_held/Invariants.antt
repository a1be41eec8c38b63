use Rattle.std.proofs.Common.{◌≡◌, replicate}
use Rattle.std.specs.Prelude.{None}
use Rattle.dz_history.proofs.held.nothing_held.Given as goal

abbrev pub invariant-catalogs : goal.invariant-catalogs
invariant-catalogs l = l.held.items ≡ replicate l._place None
