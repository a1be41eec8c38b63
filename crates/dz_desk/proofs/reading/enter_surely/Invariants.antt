use Rattle.std.proofs.Common.{◌≡◌, Some}
use Rattle.left_right.specs.Sides.{view}
use Rattle.dz_desk.specs.Seen.{Page, Goes}
use Rattle.dz_desk.proofs.reading.enter_surely.Given as goal

abbrev pub invariant-looks : goal.invariant-looks
invariant-looks g l = (last : Page) × (view l.seat.place ≡ Some last) × Goes l.seen last
