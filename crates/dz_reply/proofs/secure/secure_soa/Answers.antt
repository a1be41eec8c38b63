use Rattle.std.proofs.Common.{◌≡◌, ◌+◌, ◌%◌, length, refl, sym, arith, length-append}
use Rattle.dz_header.specs.Code.{number_of}
use Rattle.dz_request.specs.Frame.{query_of, is_tcp}
use Rattle.dz_reply.specs.Secure.{signed_soa, sets_of, soa_with}
use Rattle.dz_reply.proofs.AnswerLemmas.{front_octets, ended_so, both_written, none_written}
use Rattle.dz_reply.proofs.SecureLemmas.{laid_low, soa_counted}
use Rattle.dz_reply.proofs.secure.secure_soa.Goals as goal

pub returns : goal.returns
returns c =
    let frame = c.args.answer.now.frame.now in
    let zone = c.args.answer.now.version.now in
    let tcp = is_tcp frame.transport in
    let query = query_of frame.request.now frame.asked.now in
    let sets = sets_of zone c.args.authority.now in
    let s =
    soa_with zone frame.asked.now.question.kind c.args.chain.now (number_of c.args.code) c.args.authority.now in
    let signed = soa_counted zone c.signatures-signed.result.now 1 (sym c.put_signed_soa.ensures.one)
    (rw c.apex.ensures at c.signatures-signed.ensures) in
    let count : (c.count_signed_soa.result + c.count.result) % 65536 ≡ length s.authority % 65536 =
    omega (
      arith,
      c.count_signed_soa.ensures.value,
      signed,
      (rw c.signed-authority.ensures at c.count.ensures.value),
      length-append (signed_soa zone) sets,
    ) in
    ended_so tcp query s _ (c.finish.ensures (front_octets query s)
    (laid_low tcp query s c.count_secure_trail.result _ 0 _ _ _ _
    (rw c.is_bare.ensures at c.count_secure_trail.ensures.value) count refl
    (rw c.bare.ensures at c.begin.ensures) (rw c.is_bare.ensures at c.put_secure_trail.ensures)
    (both_written query.name (signed_soa zone) sets _ _ _ c.put_signed_soa.ensures.written
    (rw c.signed-authority.ensures at c.write.ensures)) (none_written query.name _)))
