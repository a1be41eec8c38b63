use Rattle.std.proofs.Common.{length, ap, arith}
use Rattle.dz_message.proofs.PieceLemmas.{record_short}
use Rattle.dz_message.proofs.tally.Tally.add.Goals as goal

pub has_room-requires-clause-more : goal.has_room-requires-clause-more
has_room-requires-clause-more c = omega
    (arith, record_short c.args.rr.now c.octets-more.ensures.valid, ap (λ xs. length xs) c.octets-more.ensures.octets)
