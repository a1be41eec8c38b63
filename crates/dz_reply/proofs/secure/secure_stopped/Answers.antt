use Rattle.std.proofs.Common.{refl}
use Rattle.dz_request.specs.Frame.{query_of, is_tcp}
use Rattle.dz_lookup.specs.Chain.{stopped}
use Rattle.dz_reply.specs.Answer.{only_trail}
use Rattle.dz_reply.specs.Secure.{secure_of_ending}
use Rattle.dz_reply.proofs.AnswerLemmas.{front_octets, ended_so, none_written}
use Rattle.dz_reply.proofs.SecureLemmas.{laid_low}
use Rattle.dz_reply.proofs.secure.secure_stopped.Goals as goal

pub returns : goal.returns
unfolding secure_of_ending
returns c =
    let frame = c.args.answer.now.frame.now in
    let tcp = is_tcp frame.transport in
    let query = query_of frame.request.now frame.asked.now in
    let s = secure_of_ending c.args.answer.now.version.now frame.asked.now.question.kind c.args.chain.now stopped
    (only_trail c.args.chain.now) in
    ended_so tcp query s _ (c.finish.ensures (front_octets query s)
    (laid_low tcp query s c.count_secure_trail.result c.count.result 0 _ _ _ _
    (rw c.is_bare.ensures at c.count_secure_trail.ensures.value)
    (rw (c.signed-authority.ensures, c.authority_stopped.ensures) at c.count.ensures.value) refl
    (rw c.bare.ensures at c.begin.ensures) (rw c.is_bare.ensures at c.put_secure_trail.ensures)
    (rw (c.signed-authority.ensures, c.authority_stopped.ensures) at c.write.ensures) (none_written query.name _)))
