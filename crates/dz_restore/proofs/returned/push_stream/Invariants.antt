use Rattle.std.proofs.Common.{◌≡◌, ◌++◌, length}
use Rattle.dz_message.specs.Frame.{stream}
use Rattle.dz_message.specs.Piece.{written}
use Rattle.dz_restore.proofs.returned.push_stream.Given as goal

abbrev pub invariant-messages : goal.invariant-messages
invariant-messages l =
    l.out.items ++ stream (written l.outgoing) ≡ l.initial.out.items ++ stream (written l.initial.outgoing)

abbrev pub decreases-messages : goal.decreases-messages
decreases-messages l = length l.outgoing
