use Rattle.std.proofs.Common.{◌∙◌, ap}
use Rattle.dz_reply.specs.Layout.{entries_octets}
use Rattle.dz_header.specs.Writing.{also}
use Rattle.dz_reply.proofs.AnswerLemmas.{own_some, own_none, none_written}
use Rattle.dz_reply.proofs.layout.put_own.Goals as goal

pub returns-in-None : goal.returns-in-None
returns-in-None c = rw (own_none c.args.records.now c.in-None.ensures.value)
    (none_written c.args.question.now c.args.writer.now.writing)

pub returns-in-Some : goal.returns-in-Some
returns-in-Some c =
    rw c.owner_ref.ensures at c.put_entries.ensures
    ∙ ap (λ rs. also c.args.writer.now.writing (entries_octets c.args.question.now rs))
    (own_some c.args.records.now c.in-Some.first.now c.in-Some.ensures.value)
