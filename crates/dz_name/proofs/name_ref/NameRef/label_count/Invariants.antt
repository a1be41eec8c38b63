use Rattle.std.proofs.Common.{◌≡◌, ◌≤◌, ◌-◌, drop, length}
use Rattle.dz_name.specs.Name.{wire_of, IsName}
use Rattle.dz_name.proofs.name_ref.NameRef.label_count.Given as goal

abbrev pub invariant-labels : goal.invariant-labels
invariant-labels l = record {
  rest : l.rest ≡ wire_of (drop l.count l.self);
  count : l.count ≤ length l.self;
  name : IsName l.self;
}

abbrev pub decreases-labels : goal.decreases-labels
decreases-labels l = length l.self - l.count
