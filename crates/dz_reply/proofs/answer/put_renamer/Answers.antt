use Rattle.std.proofs.Common.{sym, ◌∙◌, ap, take}
use Rattle.dz_header.specs.Writing.{also}
use Rattle.dz_reply.specs.Layout.{entries_octets, entry}
use Rattle.dz_reply.proofs.AnswerLemmas.{one_written, none_written}
use Rattle.dz_reply.proofs.TrailLemmas.{there, not_there}
use Rattle.dz_reply.proofs.answer.put_renamer.Goals as goal

pub returns-then-not-has_among : goal.returns-then-not-has_among
returns-then-not-has_among c =
    let r = c.args.renamer.now in
    one_written c.args.question.now (entry r.owner r.ttl r) c.args.writer.now.writing _
    (rw (c.owner_ref.ensures, c.ttl.ensures) at c.put_entry.ensures)
    ∙ ap (λ rs. also c.args.writer.now.writing (entries_octets c.args.question.now rs))
    (sym (not_there (take c.args.upto c.args.chain.now) r (sym c.has_among.ensures ∙ c.if-not-has_among.true)))

pub returns-else-not-has_among : goal.returns-else-not-has_among
returns-else-not-has_among c =
    none_written c.args.question.now c.args.writer.now.writing
    ∙ ap (λ rs. also c.args.writer.now.writing (entries_octets c.args.question.now rs)) (sym (there
    (take c.args.upto c.args.chain.now) c.args.renamer.now (sym c.has_among.ensures ∙ c.if-not-has_among.false)))
