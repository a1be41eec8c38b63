use Rattle.std.specs.Prelude.{false}
use Rattle.std.proofs.Common.{sym, ◌∙◌, ap, take}
use Rattle.dz_header.specs.Writing.{also}
use Rattle.dz_reply.specs.Layout.{entries_octets, entry}
use Rattle.dz_reply.specs.Secure.{beside}
use Rattle.dz_reply.proofs.AnswerLemmas.{none_written}
use Rattle.dz_reply.proofs.SignedLemmas.{cons_written, renamer_there, renamer_not_there}
use Rattle.dz_reply.proofs.signed.put_secure_renamer.Goals as goal

pub returns-then-not-has_among : goal.returns-then-not-has_among
returns-then-not-has_among c =
    let r = c.args.rr.now in
    cons_written c.args.signing.now.question.now (entry r.owner r.ttl r)
    (beside c.args.signing.now.version.now.records false r.owner r) c.args.writer.now.writing _ _
    (rw (c.owner_ref-owner.ensures, c.ttl.ensures) at c.put_entry.ensures)
    (rw c.owner_ref-owner.ensures at c.put_beside.ensures)
    ∙ ap (λ rs. also c.args.writer.now.writing (entries_octets c.args.signing.now.question.now rs))
    (sym (renamer_not_there c.args.signing.now.version.now.records c.args.signing.now.bare
    (take c.args.upto c.args.chain.now) r (sym c.has_among.ensures ∙ c.if-not-has_among.true)))

pub returns-else-not-has_among : goal.returns-else-not-has_among
returns-else-not-has_among c =
    none_written c.args.signing.now.question.now c.args.writer.now.writing
    ∙ ap (λ rs. also c.args.writer.now.writing (entries_octets c.args.signing.now.question.now rs))
    (sym (renamer_there c.args.signing.now.version.now.records c.args.signing.now.bare
    (take c.args.upto c.args.chain.now) c.args.rr.now (sym c.has_among.ensures ∙ c.if-not-has_among.false)))
