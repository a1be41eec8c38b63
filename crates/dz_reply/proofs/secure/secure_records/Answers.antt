use Rattle.std.proofs.Common.{◌≡◌, ◌+◌, ◌%◌, [], length, refl, ap, ◌∙◌, arith, length-append}
use Rattle.dz_request.specs.Frame.{query_of, is_tcp}
use Rattle.dz_reply.specs.Secure.{is_bare, secure_trail, answer_set, here_with}
use Rattle.dz_reply.proofs.AnswerLemmas.{front_octets, ended_so, both_written, none_written}
use Rattle.dz_header.specs.Writing.{also}
use Rattle.dz_reply.specs.Layout.{entries_octets}
use Rattle.dz_reply.specs.inner.Signed.{answer_signatures}
use Rattle.dz_reply.proofs.SecureLemmas.{laid_low, set_is, set_counted}
use Rattle.dz_reply.proofs.secure.secure_records.Goals as goal

pub returns : goal.returns
returns c =
    let frame = c.args.answer.now.frame.now in
    let zone = c.args.answer.now.version.now in
    let tcp = is_tcp frame.transport in
    let query = query_of frame.request.now frame.asked.now in
    let bare = is_bare frame.asked.now.question.kind in
    let name = c.args.name.now in
    let trail = secure_trail zone.records bare [] c.args.chain.now in
    let set = answer_set zone.records bare name c.args.records.now in
    let s =
    here_with zone frame.asked.now.question.kind c.args.chain.now name c.args.records.now c.args.authority.now in
    let one : c.count_secure_trail.result ≡ length trail % 65536 =
    rw c.is_bare.ensures at c.count_secure_trail.ensures.value in
    let sigs = c.answer_signatures-signed.result.now in
    let signed : sigs ≡ answer_signatures zone.records bare c.args.records.now =
    rw c.is_bare.ensures at c.answer_signatures-signed.ensures in
    let two : (length c.args.records.now % 65536 + length sigs % 65536) % 65536 ≡ length set % 65536 =
    set_counted zone.records bare name c.args.records.now sigs signed in
    let count : (c.count_secure_trail.result + (length c.args.records.now % 65536 + length sigs % 65536) % 65536)
    % 65536 ≡ length s.answer % 65536 =
    omega (arith, one, two, length-append trail set) in
    ended_so tcp query s _ (c.finish.ensures (front_octets query s)
    (laid_low tcp query s _ c.count.result 0 _ _ _ _ count
    (rw c.signed-authority.ensures at c.count.ensures.value) refl
    (rw c.bare.ensures at c.begin.ensures)
    (both_written query.name trail set _ _ _ (rw c.is_bare.ensures at c.put_secure_trail.ensures)
    (rw c.as_ref.ensures at c.put_answer.ensures ∙ ap (λ rs. also c.put_secure_trail.new.writer.writing
    (entries_octets query.name rs)) (set_is zone.records bare name c.args.records.now sigs signed)))
    (rw c.signed-authority.ensures at c.write.ensures) (none_written query.name _)))
