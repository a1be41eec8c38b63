use Rattle.std.proofs.Common.{◌≡◌, length, All}
use Rattle.dz_desk.specs.Seen.{IsFresh}
use Rattle.dz_desk.proofs.open.hand_out.Given as goal

abbrev pub invariant-readings : goal.invariant-readings
invariant-readings l =
    (l.publisher ≡ l.initial.publisher)
    × (length l.readings.items ≡ l.counter)
    × All (IsFresh l.initial.publisher.book) l.readings.items
