use Rattle.std.proofs.Common.{sym, ◌∙◌, rules, ◌≡◌, ◌≤◌, true, take, length, refl}
use Rattle.dz_io.specs.Device.{Gains}
use Rattle.dz_io.specs.Packets.{Packet, packet}
use Rattle.dz_message.specs.Frame.{frame}
use Rattle.dz_desk.proofs.PrefixLemmas.{prefix_trans}
use Rattle.dz_query.specs.Sent.{asks_for_zone}
use Rattle.dz_query.specs.Served.{excused}
use Rattle.dz_query.specs.inner.Replying.{has_unheard}
use Rattle.dz_query.specs.inner.Sending.{fate_in}
use Rattle.dz_query.proofs.StreamLemmas.{goes_on, ends, fails, breaks, starves, flowing_excused}
use Rattle.dz_query.proofs.TurnLemmas.{excused_then, excused_now}
use Rattle.dz_query.proofs.stream.serve_stream_outward.Goals as goal

pub returns-in-Ended-clause-stream : goal.returns-in-Ended-clause-stream
returns-in-Ended-clause-stream g c =
    let held : g.L.Sink.held c.read_message.new.source ≡ g.L.Sink.held c.messages.link = search rules in
    rw c.session.ensures (ends _ _ _ _ _ _ _ _ _ c.in-Ended.ensures.came.0 held refl refl c.messages.invariant.3)

pub returns-in-Failed-clause-stream : goal.returns-in-Failed-clause-stream
returns-in-Failed-clause-stream g c =
    let held : g.L.Sink.held c.read_message.new.source ≡ g.L.Sink.held c.messages.link = search rules in
    rw c.session-in-Failed.ensures
    (fails _ _ _ _ _ _ _ _ _ c.in-Failed.ensures.came held refl refl c.messages.invariant.3)

pub returns-in-Err-clause-stream : goal.returns-in-Err-clause-stream
returns-in-Err-clause-stream g c =
    let i = c.messages.invariant in
    let e = c.in-Message.ensures in
    let answer = c.answer_or_send in
    let message = take c.in-Message.size c.as_slice-octets.result.now in
    let request : Packet = packet message c.args.peer.now in
    let held : g.L.Sink.held c.read_message.new.source ≡ g.L.Sink.held c.messages.link =
    sym (g.met.L.Link.reads_leave c.read_message.new.source) ∙ (e.beside ∙ g.met.L.Link.reads_leave c.messages.link) in
    let may : g.C.Clock.may_give c.args.clock.now c.now.result ≡ true = search rules in
    let fits : length message ≤ 65535 = search rules in
    let asks : asks_for_zone c.args.downstream.now request ≡ true = search rules in
    let read : Gains (frame message) (g.L.Source.given c.messages.link) (g.L.Source.given c.read_message.new.source) =
    rw c.as_slice-octets.ensures.value e.came.1 in
    rw c.session-in-Err.ensures (starves _ _ _ _ _ _ _ _ _ _ message c.now.result answer.ensures.seen may asks fits
    read held c.now.ensures.given answer.ensures.sights i.3)

pub returns-in-Err-write_sending-clause-stream : goal.returns-in-Err-write_sending-clause-stream
returns-in-Err-write_sending-clause-stream g c =
    let i = c.messages.invariant in
    let e = c.in-Message.ensures in
    let answer = c.answer_or_send in
    let s = c.in-Ok.ensures.sending in
    let message = take c.in-Message.size c.as_slice-octets.result.now in
    let held : g.L.Sink.held c.read_message.new.source ≡ g.L.Sink.held c.messages.link = search rules in
    let given : g.L.Source.given c.write_sending.new.sink ≡ g.L.Source.given c.read_message.new.source =
    search rules in
    let may : g.C.Clock.may_give c.args.clock.now c.now.result ≡ true = search rules in
    let fits : length message ≤ 65535 = search rules in
    let read : Gains (frame message) (g.L.Source.given c.messages.link) (g.L.Source.given c.write_sending.new.sink) =
    rw (given, c.as_slice-octets.ensures.value) e.came.1 in
    let written = rw (s.goes, held) at c.in-Err-write_sending.ensures.err in
    let fate = fate_in c.in-Ok.sending in
    let may_fail = g.E.Ear.may_fail in
    let excuse = excused (has_unheard c.messages.unheard fate) may_fail in
    let was = flowing_excused (excused c.messages.unheard may_fail) excuse _ _ _ _ _ _ _
    (excused_then c.messages.unheard fate may_fail) i.3 in
    rw (c.session-in-Err-write_sending.ensures, c.has_unheard-unheard.ensures, c.fate_in.ensures)
    (breaks _ excuse _ _ _ _ _ _ _ _ message c.now.result fate answer.ensures.seen may
    (excused_now c.messages.unheard fate may_fail _ _ s.excused) fits read written c.now.ensures.given
    answer.ensures.sights was)

pub messages-preserved : goal.messages-preserved
messages-preserved g c =
    let i = c.messages.invariant in
    let e = c.in-Message.ensures in
    let answer = c.answer_or_send in
    let s = c.in-Ok.ensures.sending in
    let message = take c.in-Message.size c.as_slice-octets.result.now in
    let held : g.L.Sink.held c.read_message.new.source ≡ g.L.Sink.held c.messages.link = search rules in
    let given : g.L.Source.given c.write_sending.new.sink ≡ g.L.Source.given c.read_message.new.source =
    search rules in
    let may : g.C.Clock.may_give c.args.clock.now c.now.result ≡ true = search rules in
    let fits : length message ≤ 65535 = search rules in
    let read : Gains (frame message) (g.L.Source.given c.messages.link) (g.L.Source.given c.write_sending.new.sink) =
    rw (given, c.as_slice-octets.ensures.value) e.came.1 in
    let written = rw (s.goes, held) at c.in-Ok-write_sending.ensures.all in
    let fate = fate_in c.in-Ok.sending in
    let may_fail = g.E.Ear.may_fail in
    let excuse = excused (has_unheard c.messages.unheard fate) may_fail in
    let was = flowing_excused (excused c.messages.unheard may_fail) excuse _ _ _ _ _ _ _
    (excused_then c.messages.unheard fate may_fail) i.3 in (
      search rules,
      search rules,
      prefix_trans _ _ _ i.2 answer.ensures.seen,
      rw (c.has_unheard-unheard.ensures, c.fate_in.ensures)
          (goes_on _ excuse _ _ _ _ _ _ _ _ message c.now.result fate answer.ensures.seen may
          (excused_now c.messages.unheard fate may_fail _ _ s.excused) fits read written c.now.ensures.given
          answer.ensures.sights was),
      search rules,
      search rules,
      search rules,
      search rules,
    )
