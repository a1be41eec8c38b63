use Rattle.std.proofs.Common.{refl}
use Rattle.dz_request.specs.Frame.{query_of, is_tcp}
use Rattle.dz_reply.specs.Answer.{only_trail}
use Rattle.dz_reply.proofs.AnswerLemmas.{laid, front_octets, ended_so, none_written}
use Rattle.dz_reply.proofs.answer.reply_trail.Goals as goal

pub returns : goal.returns
returns c =
    let frame = c.args.answer.now.frame.now in
    let query = query_of frame.request.now frame.asked.now in
    let s = only_trail c.args.chain.now in
    ended_so (is_tcp frame.transport) query s _ (c.finish.ensures (front_octets query s)
    (laid (is_tcp frame.transport) query s c.count_trail.result 0 0 _ _ _ _ c.count_trail.ensures.value refl refl
    (rw c.bare.ensures at c.begin.ensures) c.put_trail.ensures (none_written query.name _)
    (none_written query.name _)))
