use Rattle.std.proofs.Common.{refl, sym}
use Rattle.dz_header.specs.Code.{number_of}
use Rattle.dz_request.specs.Frame.{query_of, is_tcp}
use Rattle.dz_reply.specs.Answer.{with_soa}
use Rattle.dz_reply.proofs.AnswerLemmas.{laid, front_octets, ended_so, none_written}
use Rattle.dz_reply.proofs.answer.reply_soa.Goals as goal

pub returns : goal.returns
returns c =
    let frame = c.args.answer.now.frame.now in
    let query = query_of frame.request.now frame.asked.now in
    let s = with_soa c.args.answer.now.version.now c.args.chain.now (number_of c.args.code) in
    ended_so (is_tcp frame.transport) query s _ (c.finish.ensures (front_octets query s)
    (laid (is_tcp frame.transport) query s c.count_trail.result 1 0 _ _ _ _ c.count_trail.ensures.value
    (sym c.put_soa.ensures.one) refl
    (rw c.bare.ensures at c.begin.ensures) c.put_trail.ensures c.put_soa.ensures.written (none_written query.name _)))
