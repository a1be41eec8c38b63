use Rattle.std.proofs.Common.{sym, ◌∙◌, take, get_or}
use Rattle.dz_reply.proofs.TrailLemmas.{renamer_counted, alias_counted}
use Rattle.dz_reply.proofs.answer.count_step.Goals as goal

pub returns-then-kind-eq-TYPE_DNAME-clause-value : goal.returns-then-kind-eq-TYPE_DNAME-clause-value
returns-then-kind-eq-TYPE_DNAME-clause-value c d =
    renamer_counted (take c.args.number c.args.chain.now) (get_or c.args.chain.now c.args.number d)
    c.record-record.result.now c.count_renamer.result (c.record-record.ensures d)
    (sym c.kind.ensures.kind ∙ c.if-kind-eq-TYPE_DNAME.true) c.count_renamer.ensures.value

pub returns-else-kind-eq-TYPE_DNAME-clause-value : goal.returns-else-kind-eq-TYPE_DNAME-clause-value
returns-else-kind-eq-TYPE_DNAME-clause-value c d =
    alias_counted (take c.args.number c.args.chain.now)
    (get_or c.args.chain.now c.args.number d) c.record-record.result.now (c.record-record.ensures d)
    (λ e. c.if-kind-eq-TYPE_DNAME.false (c.kind.ensures.kind ∙ e))
