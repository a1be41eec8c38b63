use Rattle.std.proofs.Common.{◌≡◌, ◌+◌, length, take, refl, arith, length-append}
use Rattle.std.proofs.lemmas.List.{take_all}
use Rattle.dz_request.specs.Frame.{query_of, is_tcp}
use Rattle.dz_reply.specs.Answer.{trail_entries, dname_entries, with_renamer}
use Rattle.dz_reply.proofs.AnswerLemmas.{laid, front_octets, ended_so, both_written, none_written}
use Rattle.dz_reply.proofs.answer.reply_too_long.Goals as goal

pub returns : goal.returns
returns c =
    let frame = c.args.answer.now.frame.now in
    let query = query_of frame.request.now frame.asked.now in
    let chain = c.args.chain.now in
    let r = c.args.renamer.now in
    let s = with_renamer chain r in
    let all : take c.len.result chain ≡ chain = take_all c.len.result chain (omega (arith, c.len.ensures.value)) in
    let one : c.count_renamer.result ≡ length (dname_entries chain r) = rw all at c.count_renamer.ensures.value in
    let all_too : take c.len-2.result chain ≡ chain =
    take_all c.len-2.result chain (omega (arith, c.len-2.ensures.value)) in
    let count : c.count_trail.result + c.count_renamer.result ≡ length s.answer =
    omega (arith, c.count_trail.ensures.value, one, length-append (trail_entries chain) (dname_entries chain r)) in
    ended_so (is_tcp frame.transport) query s _ (c.finish.ensures (front_octets query s)
    (laid (is_tcp frame.transport) query s (c.count_trail.result + c.count_renamer.result) 0 0 _ _ _ _ count refl refl
    (rw c.bare.ensures at c.begin.ensures) (both_written query.name (trail_entries chain)
    (dname_entries chain r) _ _ _ c.put_trail.ensures (rw all_too at c.put_renamer.ensures))
    (none_written query.name _) (none_written query.name _)))
