use Rattle.std.proofs.Common.{◌∙◌, sym, ap, ◌++◌, ◌∷◌, []}
use Rattle.dz_reply.proofs.AuthorityLemmas.{gain_none, gain_there, gain_new, shown_push}
use Rattle.dz_reply.proofs.authority.Authority.put.Goals as goal

pub returns-in-None-clause-gain : goal.returns-in-None-clause-gain
returns-in-None-clause-gain c = gain_none c.args.self.now c.args.records.now c.in-None.ensures.value

pub returns-then-has-clause-gain : goal.returns-then-has-clause-gain
returns-then-has-clause-gain c = gain_there c.args.self.now c.args.records.now c.in-Some.first.now
    c.in-Some.ensures.value (sym c.has.ensures ∙ c.if-has.true)

pub returns-clause-gain : goal.returns-clause-gain
returns-clause-gain c =
    rw c.push.ensures.items
    (shown_push c.self.inside.rrsets.items c.args.records
    ∙ (ap (λ sets. sets ++ c.args.records.now ∷ []) c.self.view_is ∙ gain_new c.args.self.now c.args.records.now
    c.in-Some.first.now c.in-Some.ensures.value (sym c.has.ensures ∙ c.if-has.false)))
