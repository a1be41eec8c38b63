use Rattle.std.proofs.Common.{◌∙◌, sym, ap}
use Rattle.dz_header.specs.Writing.{also}
use Rattle.dz_reply.specs.Layout.{entries_octets}
use Rattle.dz_reply.proofs.AnswerLemmas.{none_written}
use Rattle.dz_reply.proofs.AuthorityLemmas.{shown_none, shown_some}
use Rattle.dz_reply.proofs.authority.put_signed.Goals as goal

pub returns-in-empty : goal.returns-in-empty
returns-in-empty c =
    none_written c.args.question.now c.args.writer.now.writing
    ∙ ap (λ rs. also c.args.writer.now.writing (entries_octets c.args.question.now rs))
    (sym (shown_none c.args.set.now.records.now c.args.set.now.signed.now c.in-empty.len_below))

pub returns-in-len1-up : goal.returns-in-len1-up
returns-in-len1-up c =
    let r = c.first-item.result in
    let set = c.args.set.now in
    rw c.owner_ref.ensures at c.put_both.ensures
    ∙ ap (λ rs. also c.args.writer.now.writing (entries_octets c.args.question.now rs))
    (sym (shown_some set.records.now set.signed.now r c.in-len1-up.len_at_least c.first-item.is))
