use Rattle.std.proofs.Common.{◌≡◌, ◌≤◌, ◌-◌, length}
use Rattle.dz_name.specs.Name.{wire_of, IsName}
use Rattle.dz_name.specs.inner.Starts.{AreStarts, offset_of}
use Rattle.dz_name.proofs.name_ref.NameRef.starts.Given as goal

abbrev pub invariant-labels : goal.invariant-labels
invariant-labels l = record {
  wire : l.wire ≡ wire_of l.self;
  name : IsName l.self;
  at : l.at ≡ offset_of l.self l.count;
  count : l.count ≤ length l.self;
  starts : AreStarts l.self l.count l.starts;
}

abbrev pub decreases-labels : goal.decreases-labels
decreases-labels l = length l.self - l.count
