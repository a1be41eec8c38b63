use Rattle.std.proofs.Common.{◌∙◌, sym}
use Rattle.dz_io.specs.Packets.{Packet, packet}
use Rattle.dz_query.proofs.SendingLemmas.{sends_reply, sends_zone, asks, if_ok_then}
use Rattle.dz_query.proofs.sending.answer_or_send.Goals as goal

pub returns-in-None-clause-sending : goal.returns-in-None-clause-sending
returns-in-None-clause-sending g c =
    let i = c.args.incoming.now in
    let request : Packet = packet i.octets.now i.peer.now in
    let a = c.answer_incoming in
    sends_reply c.args.downstream.now _ a.result a.new.writer.writing a.new.reading.list request i.moment
    (sym c.transfer_in.ensures.asked ∙ c.in-None.is) (rw c.requires.tcp at a.ensures.answered)

pub returns-in-Some-clause-sending : goal.returns-in-Some-clause-sending
returns-in-Some-clause-sending g c =
    let i = c.args.incoming.now in
    let request : Packet = packet i.octets.now i.peer.now in
    let s = c.send_surely in
    let asked = sym c.transfer_in.ensures.asked ∙ c.in-Some.is in
    if_ok_then s.result _ _ (λ sending sends. sends_zone c.args.downstream.now _ sending s.new.writer.writing
    s.new.reading.list request i.moment c.in-Some.asked asked sends) s.ensures.sent

pub returns-in-Some-clause-starved : goal.returns-in-Some-clause-starved
returns-in-Some-clause-starved g c =
    let i = c.args.incoming.now in
    λ _. asks c.args.downstream.now (packet i.octets.now i.peer.now) c.in-Some.asked
    (sym c.transfer_in.ensures.asked ∙ c.in-Some.is)
