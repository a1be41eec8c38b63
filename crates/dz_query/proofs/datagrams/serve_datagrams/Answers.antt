use Rattle.std.proofs.Common.{rules, ◌≡◌, ◌∷◌, [], true, false, take, length, refl, ap, ◌∙◌, arith}
use Rattle.dz_io.specs.Device.{Gains}
use Rattle.dz_io.specs.Packets.{Packet, packet}
use Rattle.dz_desk.proofs.PrefixLemmas.{prefix_trans}
use Rattle.dz_query.specs.Due.{due}
use Rattle.dz_query.specs.Served.{excused, sent_of, packets_to}
use Rattle.dz_query.specs.inner.Replying.{has_unheard}
use Rattle.dz_query.proofs.RoomLemmas.{front_kept}
use Rattle.dz_query.proofs.SessionLemmas.{goes_on, closes, fails, answered_excused}
use Rattle.dz_query.proofs.TurnLemmas.{still_excused, excused_then, excused_now}
use Rattle.dz_query.proofs.datagrams.serve_datagrams.Goals as goal

pub returns-in-Err-clause-session : goal.returns-in-Err-clause-session
returns-in-Err-clause-session g c =
    let i = c.packets.invariant in
    let e = c.in-Err.ensures in
    let may_fail = g.E.Ear.may_fail in
    let was = answered_excused (excused c.packets.unheard may_fail) may_fail c.packets.lost _ _ _ _ _
    (still_excused c.packets.unheard may_fail) i.3 in
    fails c.packets.lost _ _ _ _ _ _ _ e.err.0 e.sent refl refl (search rules) was

pub returns-in-Ok-Closed-clause-session : goal.returns-in-Ok-Closed-clause-session
returns-in-Ok-Closed-clause-session g c =
    let i = c.packets.invariant in
    let e = c.in-Ok-Closed.ensures in
    closes c.packets.lost _ _ _ _ _ _ _ (search rules) e.sent refl refl e.cause.later i.3

pub packets-preserved : goal.packets-preserved
packets-preserved g c =
    let i = c.packets.invariant in
    let e = c.in-Ok-Packet.ensures in
    let a = c.answer_packet-fate.ensures in
    let size = c.in-Ok-Packet.length in
    let request : Packet = packet (take size c.as_slice-octets.result.now) c.in-Ok-Packet.peer in
    let came = rw c.in-Ok-Packet.field-0-is at e.came in
    let room : length c.receive.new.buffer ≡ c.packets.request.len = search rules in
    let front : take size c.as_slice-octets.result.now ≡ take size c.receive.new.buffer =
    ap (λ xs. take size xs) c.as_slice-octets.ensures.value
    ∙ front_kept size c.packets.request.len c.receive.new.buffer _ came.0 (omega (arith, came.0, room)) in
    let received : Gains (request ∷ []) (g.D.Datagrams.received c.packets.device)
    (g.D.Datagrams.received c.answer_packet-fate.new.device) = rw (front, a.received) came.1 in
    let sent : Gains (packets_to request
    (sent_of c.answer_packet-fate.result (due c.answer_packet-fate.new.reading.list false request c.now.result)))
    (g.D.Datagrams.sent c.packets.device) (g.D.Datagrams.sent c.answer_packet-fate.new.device) = search rules in
    let may : g.C.Clock.may_give c.args.clock.now c.now.result ≡ true = search rules in
    let fate = c.answer_packet-fate.result in
    let may_fail = g.E.Ear.may_fail in
    let excuse = excused (has_unheard c.packets.unheard fate) may_fail in
    let was = answered_excused (excused c.packets.unheard may_fail) excuse c.packets.lost _ _ _ _ _
    (excused_then c.packets.unheard fate may_fail) i.3 in (
      search rules,
      search rules,
      prefix_trans _ _ _ i.2 a.seen,
      rw (c.has_lost-lost.ensures, c.has_unheard-unheard.ensures)
          (goes_on c.packets.lost excuse _ _ _ _ _ _ _ request c.now.result fate a.seen may
          (excused_now c.packets.unheard fate may_fail _ _ a.excused) received sent c.now.ensures.given a.sights
          i.4 (omega (arith, e.cause.later, a.later)) (search rules) was),
      omega (arith, i.4, e.cause.later, a.later),
      search rules,
      search rules,
      search rules,
    )
