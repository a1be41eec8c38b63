-- What comes back, by the devices that workers hand on.
use Rattle.std.proofs.Common.{◌∙◌}
use Rattle.dz_serve.proofs.EndLemmas.{risen_first, risen_last}
use Rattle.dz_serve.proofs.served.give_back.Goals as goal

pub returns-clause-readings : goal.returns-clause-readings
returns-clause-readings g c =
    let l = c.part_listened-datagrams.ensures.readings in
    let k = c.part_linked-acceptors.ensures.readings in
    let t = c.part_transferred-dialers.ensures.readings in
    rw (l.0, l.1, k.0, k.1, t.0, t.1) at c.unseated.ensures

pub returns-clause-datagrams : goal.returns-clause-datagrams
returns-clause-datagrams g c =
    c.close_dialers.ensures.datagrams ∙ (c.close_acceptors.ensures.datagrams
    ∙ (rw (c.part_listened-datagrams.ensures.first, c.part_listened-datagrams.ensures.second)
    at c.close_datagrams.ensures.back))

pub returns-clause-acceptors : goal.returns-clause-acceptors
returns-clause-acceptors g c =
    c.close_dialers.ensures.acceptors
    ∙ (rw (
      c.part_linked-acceptors.ensures.first,
      c.part_linked-acceptors.ensures.second,
      c.close_datagrams.ensures.acceptors,
    ) at c.close_acceptors.ensures.back)

pub returns-clause-dialers : goal.returns-clause-dialers
returns-clause-dialers g c =
    rw (
      c.part_transferred-dialers.ensures.first,
      c.part_transferred-dialers.ensures.second,
      c.close_acceptors.ensures.dialers,
      c.close_datagrams.ensures.dialers,
    ) at c.close_dialers.ensures.back

pub returns-clause-datagram_one : goal.returns-clause-datagram_one
returns-clause-datagram_one g c risen =
    rw c.close_dialers.ensures.faults (risen_first _ _ _ (c.close_datagrams.ensures.first
    (rw c.part_listened-datagrams.ensures.first risen)) c.close_acceptors.ensures.later)

pub returns-clause-datagram_two : goal.returns-clause-datagram_two
returns-clause-datagram_two g c risen =
    rw c.close_dialers.ensures.faults (risen_first _ _ _ (c.close_datagrams.ensures.second
    (rw c.part_listened-datagrams.ensures.second risen)) c.close_acceptors.ensures.later)

pub returns-clause-acceptor_one : goal.returns-clause-acceptor_one
returns-clause-acceptor_one g c risen =
    rw c.close_dialers.ensures.faults (risen_last _ _ _ c.close_datagrams.ensures.later
    (c.close_acceptors.ensures.first (rw c.part_linked-acceptors.ensures.first risen)))

pub returns-clause-acceptor_two : goal.returns-clause-acceptor_two
returns-clause-acceptor_two g c risen =
    rw c.close_dialers.ensures.faults (risen_last _ _ _ c.close_datagrams.ensures.later
    (c.close_acceptors.ensures.second (rw c.part_linked-acceptors.ensures.second risen)))
