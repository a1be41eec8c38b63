use Rattle.std.proofs.Common.{sym, ◌∙◌, take, get_or}
use Rattle.dz_reply.proofs.SignedLemmas.{renamer_counted, alias_counted}
use Rattle.dz_reply.proofs.signed.count_secure_step.Goals as goal

pub returns-then-kind-eq-TYPE_DNAME-clause-value : goal.returns-then-kind-eq-TYPE_DNAME-clause-value
returns-then-kind-eq-TYPE_DNAME-clause-value c d =
    renamer_counted c.args.signing.now.version.now.records c.args.signing.now.bare
    (take c.args.number c.args.chain.now) (get_or c.args.chain.now c.args.number d) c.record-record.result.now
    c.count_secure_renamer.result (c.record-record.ensures d)
    (sym c.kind.ensures.kind ∙ c.if-kind-eq-TYPE_DNAME.true) c.count_secure_renamer.ensures.value

pub returns-else-kind-eq-TYPE_DNAME-clause-value : goal.returns-else-kind-eq-TYPE_DNAME-clause-value
returns-else-kind-eq-TYPE_DNAME-clause-value c d =
    let a = get_or c.args.chain.now c.args.number d in
    alias_counted c.args.signing.now.version.now.records c.args.signing.now.bare (take c.args.number c.args.chain.now)
    a c.record-record.result.now c.count_beside.result (c.record-record.ensures d)
    (λ e. c.if-kind-eq-TYPE_DNAME.false (c.kind.ensures.kind ∙ e))
    (c.count_beside.ensures.value (get_or c.args.chain.now c.args.number d).0)
