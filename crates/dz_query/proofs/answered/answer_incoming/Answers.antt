use Rattle.std.proofs.Common.{◌∙◌, false, [], arith}
use Rattle.dz_request.specs.Frame.{is_tcp}
use Rattle.dz_reply.specs.Reply.{nothing, written}
use Rattle.dz_history.specs.After.{after}
use Rattle.dz_query.proofs.AnswerLemmas.{due_is, due_heard, names_zone, reply_fits}
use Rattle.dz_query.proofs.answered.answer_incoming.Goals as goal

pub notify_reply_to-requires : goal.notify_reply_to-requires
notify_reply_to-requires g c =
    names_zone [] c.args.incoming.now.octets.now 0 false c.in-Notify.zone (c.in-Notify.ensures.notify [] 0 false)

pub returns-in-Silent-clause-answered : goal.returns-in-Silent-clause-answered
returns-in-Silent-clause-answered g c =
    let i = c.args.incoming.now in
    due_is c.answer_surely.new.reading.list
    (is_tcp i.transport) i.octets.now i.peer.now i.moment nothing c.in-Silent.ensures.reply

pub returns-in-Written-clause-answered : goal.returns-in-Written-clause-answered
returns-in-Written-clause-answered g c =
    let i = c.args.incoming.now in
    let list = c.answer_surely.new.reading.list in
    let r = c.in-Written.ensures.reply in
    record {
      text = r.0;
      written = r.1;
      counts = r.2;
      short = reply_fits (after list).table i.octets.now i.moment (is_tcp i.transport) r.0 r.3;
      is = due_is list (is_tcp i.transport) i.octets.now i.peer.now i.moment (written r.0) r.3;
    }

pub returns-in-LogFault-clause-answered : goal.returns-in-LogFault-clause-answered
returns-in-LogFault-clause-answered g c = (
  c.in-LogFault.ensures.heard,
  names_zone [] c.args.incoming.now.octets.now 0 false c.in-Notify.zone (c.in-Notify.ensures.notify [] 0 false),
)

pub returns-in-None-clause-answered : goal.returns-in-None-clause-answered
returns-in-None-clause-answered g c =
    let i = c.args.incoming.now in
    let list = c.hear.new.reading.list in
    let is = c.in-Notify.ensures.notify (after list).table i.moment (is_tcp i.transport) in
    due_heard list (is_tcp i.transport) i.octets.now i.peer.now i.moment c.in-Notify.zone c.in-Heard.heard is
    c.in-Heard.ensures.heard ∙ c.in-None.ensures.reply

pub returns-in-Some-clause-answered : goal.returns-in-Some-clause-answered
returns-in-Some-clause-answered g c =
    let i = c.args.incoming.now in
    let list = c.hear.new.reading.list in
    let is = c.in-Notify.ensures.notify (after list).table i.moment (is_tcp i.transport) in
    let r = c.in-Some.ensures.reply in
    record {
      text = r.0;
      written = r.1;
      counts = r.2;
      short = omega (arith, c.in-Some.ensures.size, r.2);
      is = due_heard list (is_tcp i.transport) i.octets.now i.peer.now i.moment c.in-Notify.zone c.in-Heard.heard is
          c.in-Heard.ensures.heard ∙ r.3;
    }
