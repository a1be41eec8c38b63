use Rattle.std.proofs.Common.{◌≡◌, ◌≤◌, drop, length}
use Rattle.dz_name.proofs.name_ref.NameRef.above.Given as goal

abbrev pub invariant-labels : goal.invariant-labels
invariant-labels l = record {
  name : l.name ≡ drop l.counter l.self;
  within : l.counter ≤ length l.self;
}
