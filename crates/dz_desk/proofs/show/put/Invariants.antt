use Rattle.std.proofs.Common.{◌≡◌, drop}
use Rattle.dz_desk.proofs.show.put.Given as goal

abbrev pub invariant-memory : goal.invariant-memory
invariant-memory g l =
    (l.writer.desk ≡ l.initial.writer.desk)
    × (drop l.writer.behind l.writer.log.items ≡ drop l.initial.writer.behind l.initial.writer.log.items)
    × (l.next ≡ l.initial.next)
