use Rattle.std.proofs.Common.{◌≡◌, ◌+◌, ◌%◌, [], length, take, refl, arith, length-append}
use Rattle.std.proofs.lemmas.List.{take_all}
use Rattle.dz_request.specs.Frame.{query_of, is_tcp}
use Rattle.dz_lookup.specs.Chain.{too_long}
use Rattle.dz_reply.specs.Answer.{with_renamer}
use Rattle.dz_reply.specs.Secure.{is_bare, secure_trail, renamer_set, secure_of_ending}
use Rattle.dz_reply.proofs.AnswerLemmas.{front_octets, ended_so, both_written, none_written}
use Rattle.dz_reply.proofs.SecureLemmas.{laid_low}
use Rattle.dz_reply.proofs.secure.secure_too_long.Goals as goal

pub returns : goal.returns
unfolding secure_of_ending
returns c =
    let frame = c.args.answer.now.frame.now in
    let zone = c.args.answer.now.version.now in
    let tcp = is_tcp frame.transport in
    let query = query_of frame.request.now frame.asked.now in
    let bare = is_bare frame.asked.now.question.kind in
    let chain = c.args.chain.now in
    let r = c.args.renamer.now in
    let trail = secure_trail zone.records bare [] chain in
    let set = renamer_set zone.records bare chain r in
    let s = secure_of_ending zone frame.asked.now.question.kind chain (too_long r) (with_renamer chain r) in
    let all : take c.len-upto.result chain ≡ chain =
    take_all c.len-upto.result chain (omega (arith, c.len-upto.ensures.value)) in
    let one : c.count_secure_trail.result ≡ length trail % 65536 =
    rw c.is_bare.ensures at c.count_secure_trail.ensures.value in
    let two : c.count_secure_renamer.result ≡ length set % 65536 =
    rw all at c.count_secure_renamer.ensures.value in
    let count : (c.count_secure_trail.result + c.count_secure_renamer.result) % 65536 ≡ length s.answer % 65536 =
    omega (arith, one, two, length-append trail set) in
    ended_so tcp query s _ (c.finish.ensures (front_octets query s)
    (laid_low tcp query s _ c.count.result 0 _ _ _ _ count
    (rw (c.signed-authority.ensures, c.authority_stopped.ensures) at c.count.ensures.value) refl
    (rw c.bare.ensures at c.begin.ensures)
    (both_written query.name trail set _ _ _ (rw c.is_bare.ensures at c.put_secure_trail.ensures)
    (rw all at c.put_secure_renamer.ensures))
    (rw (c.signed-authority.ensures, c.authority_stopped.ensures) at c.write.ensures) (none_written query.name _)))
