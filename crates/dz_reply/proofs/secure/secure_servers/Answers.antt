use Rattle.std.proofs.Common.{◌≡◌, ◌%◌, length, refl, false}
use Rattle.std.specs.Prelude.{◌==◌, not}
use Rattle.dz_header.specs.declared.code.ResponseCode.TheVariants.{NoError}
use Rattle.dz_request.specs.Frame.{query_of, is_tcp}
use Rattle.dz_reply.specs.Secure.{servers_with}
use Rattle.dz_reply.proofs.AnswerLemmas.{front_octets, ended_so}
use Rattle.dz_reply.proofs.SecureLemmas.{laid_answers}
use Rattle.dz_reply.proofs.AdditionalLemmas.{laid_additional}
use Rattle.dz_reply.proofs.secure.secure_servers.Goals as goal

pub returns : goal.returns
returns c =
    let frame = c.args.answer.now.frame.now in
    let zone = c.args.answer.now.version.now in
    let tcp = is_tcp frame.transport in
    let query = query_of frame.request.now frame.asked.now in
    let s = servers_with zone frame.asked.now.question.kind c.args.chain.now c.args.servers.now c.args.authority.now in
    let one : c.count_secure_trail.result ≡ length s.answer % 65536 =
    rw c.is_bare.ensures at c.count_secure_trail.ensures.value in
    let two : c.count.result ≡ length s.authority % 65536 =
    rw c.signed-authority.ensures at c.count.ensures.value in
    ended_so tcp query s _ (rw c.len-authoritative.ensures.value at (c.finish.ensures (front_octets query s)
    (laid_additional tcp query s (record {
      code = NoError;
      authoritative = not (length c.args.chain.now == 0);
      truncated = false;
      answer = c.count_secure_trail.result;
      authority = c.count.result;
      additional = 0;
    }) _ _ _ _ refl refl refl
    (rw (c.bare.ensures, c.len-authoritative.ensures.value) at c.begin.ensures)
    (rw c.is_bare.ensures at c.put_secure_trail.ensures)
    (rw c.signed-authority.ensures at c.write.ensures) c.put_additional.ensures
    (λ w is. laid_answers tcp query s c.count_secure_trail.result c.count.result w _ _ _ one two is refl refl refl))))
