use Rattle.std.proofs.Common.{◌≡◌, ◌≤◌, length, reverse, take}
use Rattle.std.specs.Cmp.Lexicographic.{slice_cmp}
use Rattle.std.specs.Ordering.{nat_cmp}
use Rattle.dz_name.specs.Name.{canonical_order}
use Rattle.dz_name.specs.inner.Starts.{AreStarts}
use Rattle.dz_name.proofs.name_ref.NameRef.cmp_from_the_right.Given as goal

abbrev pub invariant-labels : goal.invariant-labels
invariant-labels l = record {
  left : l.left ≤ length l.self;
  right : l.right ≤ length l.other;
  mine : AreStarts l.self (length l.self) l.mine;
  theirs : AreStarts l.other (length l.other) l.theirs;
  order : slice_cmp (slice_cmp nat_cmp) (reverse (take l.left l.self)) (reverse (take l.right l.other))
      ≡ canonical_order l.self l.other;
}

abbrev pub decreases-labels : goal.decreases-labels
decreases-labels l = l.left
