use Rattle.std.proofs.Common.{◌∷◌, ◌++◌, [], drop}
use Rattle.dz_message.specs.Frame.{stream}
use Rattle.dz_message.specs.Piece.{packed, written, IsPacking}
use Rattle.dz_message.proofs.packed.put_all.Given as goal

abbrev pub invariant-records : goal.invariant-records
invariant-records l = IsPacking l.piece l.buffer l.out.items l.id (drop l.rr-index l.records)
    (l.fn.out.items ++ stream (written (packed l.id (l.question ∷ []) [] l.records)))
