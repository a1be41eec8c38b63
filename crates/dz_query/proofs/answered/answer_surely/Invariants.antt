use Rattle.std.proofs.Common.{◌≡◌, false}
use mathlib.Core.List.{IsPrefix}
use Rattle.dz_query.proofs.answered.answer_surely.Given as goal

abbrev pub invariant-looks : goal.invariant-looks
invariant-looks g l =
    (l.reading.is_out ≡ false)
    × (l.reading.book ≡ l.initial.reading.book)
    × (l.reading.sights ≡ l.initial.reading.sights)
    × IsPrefix l.initial.reading.list l.reading.list
