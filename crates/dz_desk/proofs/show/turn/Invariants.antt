use Rattle.std.proofs.Common.{◌≡◌, drop, Some}
use Rattle.left_right.specs.Sides.{view}
use Rattle.dz_desk.proofs.show.turn.Given as goal

abbrev pub invariant-owners : goal.invariant-owners
invariant-owners g l =
    (view l.writer.desk.place ≡ Some l.writer.desk.shown.value)
    × (l.writer.desk.shown.value ≡ l.initial.writer.desk.shown.value)
    × (drop l.writer.behind l.writer.log.items ≡ drop l.initial.writer.behind l.initial.writer.log.items)
