use Rattle.std.proofs.Common.{◌≡◌, ◌+◌, length, refl, arith, length-append}
use Rattle.std.proofs.lemmas.List.{append-nil}
use Rattle.dz_request.specs.Frame.{query_of, is_tcp}
use Rattle.dz_reply.specs.Layout.{entries}
use Rattle.dz_reply.specs.Answer.{trail_entries, with_records}
use Rattle.dz_reply.proofs.AnswerLemmas.{laid, front_octets, ended_so, both_written, none_written, length-entries, entries_none}
use Rattle.dz_reply.proofs.answer.reply_records.Goals as goal

pub returns : goal.returns
returns c =
    let frame = c.args.answer.now.frame.now in
    let query = query_of frame.request.now frame.asked.now in
    let trail = trail_entries c.args.chain.now in
    let records = entries c.args.name.now c.args.records.now in
    let s = with_records c.args.chain.now c.args.name.now c.args.records.now in
    let count : c.count_trail.result + length c.args.records.now ≡ length s.answer =
    omega (
      arith,
      c.count_trail.ensures.value,
      length-entries c.args.name.now c.args.records.now,
      length-append trail records,
    ) in
    ended_so (is_tcp frame.transport) query s _ (c.finish.ensures (front_octets query s)
    (laid (is_tcp frame.transport) query s
    (c.count_trail.result + length c.args.records.now) 0 0 _ _ _ _ count refl refl
    (rw c.bare.ensures at c.begin.ensures) (both_written query.name trail records _ _ _ c.put_trail.ensures
    (rw (c.as_ref.ensures, entries_none c.args.name.now, append-nil records) at c.put_answer.ensures)) (none_written query.name _) (none_written query.name _)))
