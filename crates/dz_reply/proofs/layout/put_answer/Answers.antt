use Rattle.dz_reply.specs.Layout.{entries}
use Rattle.dz_reply.proofs.AnswerLemmas.{both_written}
use Rattle.dz_reply.proofs.layout.put_answer.Goals as goal

pub returns : goal.returns
returns c =
    let q = c.args.question.now in
    let owner = c.args.owner.now in
    both_written q (entries owner c.args.records.now) (entries owner c.args.signed.now) c.args.writer.now.writing _ _
    (c.put_types_under.ensures q owner c.shown_owner-shown.ensures)
    (c.put_entries_under.ensures q owner c.shown_owner-shown.ensures)
