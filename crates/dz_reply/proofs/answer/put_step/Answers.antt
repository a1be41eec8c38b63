use Rattle.std.proofs.Common.{sym, ◌∙◌, take, get_or}
use Rattle.dz_reply.proofs.TrailLemmas.{renamer_written, alias_written}
use Rattle.dz_reply.proofs.answer.put_step.Goals as goal

pub returns-then-kind-eq-TYPE_DNAME : goal.returns-then-kind-eq-TYPE_DNAME
returns-then-kind-eq-TYPE_DNAME c d =
    renamer_written c.args.question.now (take c.args.number c.args.chain.now) (get_or c.args.chain.now c.args.number d)
    c.record-record.result.now c.args.name.now c.target-target.result c.args.writer.now.writing _ _
    (c.record-record.ensures d) (c.requires.name d) (c.target-target.ensures.target d)
    (sym c.kind.ensures.kind ∙ c.if-kind-eq-TYPE_DNAME.true)
    c.put_renamer.ensures
    (rw (c.as_ref.ensures, c.ttl.ensures, c.as_ref-then-kind-eq-TYPE_DNAME.ensures) at c.put_cname.ensures)

pub returns-else-kind-eq-TYPE_DNAME : goal.returns-else-kind-eq-TYPE_DNAME
returns-else-kind-eq-TYPE_DNAME c d =
    alias_written c.args.question.now (take c.args.number c.args.chain.now)
    (get_or c.args.chain.now c.args.number d) c.record-record.result.now c.args.name.now c.args.writer.now.writing _
    (c.record-record.ensures d) (c.requires.name d) (λ e. c.if-kind-eq-TYPE_DNAME.false (c.kind.ensures.kind ∙ e))
    (rw (c.as_ref-else-kind-eq-TYPE_DNAME.ensures, c.ttl-else-kind-eq-TYPE_DNAME.ensures) at c.put_entry.ensures)
