use Rattle.std.proofs.Common.{◌≡◌, drop}
use Rattle.dz_name.specs.Name.{wire_of}
use Rattle.dz_name.proofs.name_ref.NameRef.behind.Given as goal

abbrev pub invariant-labels : goal.invariant-labels
invariant-labels l = l.rest ≡ wire_of (drop l.counter l.self)
