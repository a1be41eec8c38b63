use Rattle.std.proofs.Common.{length, refl, sym, false}
use Rattle.std.specs.Prelude.{◌==◌, not}
use Rattle.dz_header.specs.declared.code.ResponseCode.TheVariants.{NoError}
use Rattle.dz_request.specs.Frame.{query_of, is_tcp}
use Rattle.dz_reply.specs.Answer.{with_servers}
use Rattle.dz_reply.proofs.AnswerLemmas.{laid, front_octets, ended_so, length-own_entries}
use Rattle.dz_reply.proofs.AdditionalLemmas.{laid_additional}
use Rattle.dz_reply.proofs.answer.reply_referral.Goals as goal

pub returns : goal.returns
returns c =
    let frame = c.args.answer.now.frame.now in
    let tcp = is_tcp frame.transport in
    let query = query_of frame.request.now frame.asked.now in
    let s = with_servers c.args.answer.now.version.now c.args.chain.now c.args.servers.now in
    ended_so tcp query s _ (rw c.len-authoritative.ensures.value at (c.finish.ensures (front_octets query s)
    (laid_additional tcp query s (record {
      code = NoError;
      authoritative = not (length c.args.chain.now == 0);
      truncated = false;
      answer = c.count_trail.result;
      authority = length c.args.servers.now;
      additional = 0;
    }) _ _ _ _ refl refl refl
    (rw (c.bare.ensures, c.len-authoritative.ensures.value) at c.begin.ensures)
    c.put_trail.ensures c.put_own.ensures c.put_additional.ensures
    (λ w is. laid tcp query s c.count_trail.result (length c.args.servers.now) (length s.additional) w _ _ _
    c.count_trail.ensures.value (sym (length-own_entries c.args.servers.now)) refl is refl refl refl))))
