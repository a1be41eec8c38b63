use Rattle.std.proofs.Common.{arith, ◌-◌, ◌∙◌, sym, ap}
use Rattle.dz_lookup.proofs.CountedLemmas.{searches_add, searches_more}
use Rattle.dz_secure.specs.Secure.{nsec_of}
use Rattle.dz_secure.proofs.EvidenceLemmas.{elsewhere, gone_here, there_here}
use Rattle.dz_secure.proofs.evidence.no_data_at.Goals as goal

pub returns-then-not-same-clause-first : goal.returns-then-not-same-clause-first
returns-then-not-same-clause-first g c =
    let zone = c.args.version.now.records in
    ap (λ p. p.0)
    (sym (elsewhere zone c.args.name.now c.args.node.now c.rrset_near-own.result.now (c.rrset_near-own.ensures.rrset
    ∙ ap (nsec_of zone) c.as_ref.ensures) (sym c.same.ensures.value ∙ c.if-not-same.true)))

pub returns-then-not-same-clause-second : goal.returns-then-not-same-clause-second
returns-then-not-same-clause-second g c =
    let zone = c.args.version.now.records in
    c.covering.ensures.covering ∙ ap (λ p. p.1)
    (sym (elsewhere zone c.args.name.now c.args.node.now c.rrset_near-own.result.now (c.rrset_near-own.ensures.rrset
    ∙ ap (nsec_of zone) c.as_ref.ensures) (sym c.same.ensures.value ∙ c.if-not-same.true)))

pub returns-then-not-same-clause-cost : goal.returns-then-not-same-clause-cost
returns-then-not-same-clause-cost g c =
    searches_add 1 2 _ (c.rrset_near-own.new.steps - c.args.steps.now)
    (c.covering.new.steps - c.rrset_near-own.new.steps) _
    c.rrset_near-own.ensures.cost c.covering.ensures.cost
    (omega (arith, c.rrset_near-own.ensures.counted, c.covering.ensures.counted))

pub returns-then-is_empty-clause-first : goal.returns-then-is_empty-clause-first
returns-then-is_empty-clause-first g c =
    let zone = c.args.version.now.records in
    c.of_one.ensures.first ∙ (c.covering-then-is_empty.ensures.covering
    ∙ ap (λ p. p.0) (sym (gone_here zone c.args.name.now c.args.node.now c.rrset_near-own.result.now
    (c.rrset_near-own.ensures.rrset ∙ ap (nsec_of zone) c.as_ref.ensures)
    (sym c.same.ensures.value ∙ c.if-not-same.false) c.if-is_empty.ensures)))

pub returns-then-is_empty-clause-second : goal.returns-then-is_empty-clause-second
returns-then-is_empty-clause-second g c =
    let zone = c.args.version.now.records in
    c.of_one.ensures.second
    ∙ ap (λ p. p.1) (sym (gone_here zone c.args.name.now c.args.node.now c.rrset_near-own.result.now
    (c.rrset_near-own.ensures.rrset ∙ ap (nsec_of zone) c.as_ref.ensures)
    (sym c.same.ensures.value ∙ c.if-not-same.false) c.if-is_empty.ensures))

pub returns-then-is_empty-clause-cost : goal.returns-then-is_empty-clause-cost
returns-then-is_empty-clause-cost g c =
    searches_add 1 2 _ (c.rrset_near-own.new.steps - c.args.steps.now)
    (c.covering-then-is_empty.new.steps - c.rrset_near-own.new.steps) _
    c.rrset_near-own.ensures.cost c.covering-then-is_empty.ensures.cost
    (omega (arith, c.rrset_near-own.ensures.counted, c.covering-then-is_empty.ensures.counted))

pub returns-else-is_empty-clause-first : goal.returns-else-is_empty-clause-first
returns-else-is_empty-clause-first g c =
    let zone = c.args.version.now.records in
    c.of_one-else-is_empty.ensures.first
    ∙ ap (λ p. p.0) (sym (there_here zone c.args.name.now c.args.node.now c.rrset_near-own.result.now
    (c.rrset_near-own.ensures.rrset ∙ ap (nsec_of zone) c.as_ref.ensures)
    (sym c.same.ensures.value ∙ c.if-not-same.false) c.if-is_empty.ensures))

pub returns-else-is_empty-clause-second : goal.returns-else-is_empty-clause-second
returns-else-is_empty-clause-second g c =
    let zone = c.args.version.now.records in
    c.of_one-else-is_empty.ensures.second
    ∙ ap (λ p. p.1) (sym (there_here zone c.args.name.now c.args.node.now c.rrset_near-own.result.now
    (c.rrset_near-own.ensures.rrset ∙ ap (nsec_of zone) c.as_ref.ensures)
    (sym c.same.ensures.value ∙ c.if-not-same.false) c.if-is_empty.ensures))

pub returns-else-is_empty-clause-cost : goal.returns-else-is_empty-clause-cost
returns-else-is_empty-clause-cost g c = searches_more 1 3 _ _ (omega arith) c.rrset_near-own.ensures.cost
