use Rattle.std.proofs.Common.{rules, arith, ◌∙◌, sym, ap}
use Rattle.dz_lookup.proofs.CountedLemmas.{searches_more}
use Rattle.dz_lookup.specs.Found.{meaning}
use Rattle.dz_secure.proofs.MissingLemmas.{missing}
use Rattle.dz_secure.proofs.EvidenceLemmas.{no_proof}
use Rattle.dz_secure.specs.Secure.{proof}
use Rattle.dz_secure.proofs.evidence.proof.Goals as goal

pub returns-then-not-is_secure-clause-first : goal.returns-then-not-is_secure-clause-first
returns-then-not-is_secure-clause-first g c =
    c.of_one.ensures.first
    ∙ ap (λ p. p.0) (sym (no_proof c.args.version.now c.is_secure.ensures.valid.rises
    (sym c.is_secure.ensures.secure ∙ c.if-not-is_secure.true) c.args.name.now (meaning c.args.last.now)))

pub returns-then-not-is_secure-clause-second : goal.returns-then-not-is_secure-clause-second
returns-then-not-is_secure-clause-second g c =
    c.of_one.ensures.second
    ∙ ap (λ p. p.1) (sym (no_proof c.args.version.now c.is_secure.ensures.valid.rises
    (sym c.is_secure.ensures.secure ∙ c.if-not-is_secure.true) c.args.name.now (meaning c.args.last.now)))

pub no_name-requires : goal.no_name-requires
no_name-requires g c = missing c.args.version.now.apex c.args.version.now.records c.args.name.now c.args.kind
    (rw c.in-NoName.is at c.requires)

pub returns-in-NoName-clause-cost : goal.returns-in-NoName-clause-cost
returns-in-NoName-clause-cost g c = searches_more 4 5 _ _ (omega arith) c.no_name.ensures.cost

pub returns-in-Referral-clause-cost : goal.returns-in-Referral-clause-cost
returns-in-Referral-clause-cost g c = searches_more 2 5 _ _ (omega arith) c.referral.ensures.cost

pub returns-in-NoData-clause-first : goal.returns-in-NoData-clause-first
unfolding proof
returns-in-NoData-clause-first g c = search rules

pub returns-in-NoData-clause-second : goal.returns-in-NoData-clause-second
unfolding proof
returns-in-NoData-clause-second g c = search rules

pub returns-in-NoName-clause-first : goal.returns-in-NoName-clause-first
unfolding proof
returns-in-NoName-clause-first g c = search rules

pub returns-in-NoName-clause-second : goal.returns-in-NoName-clause-second
unfolding proof
returns-in-NoName-clause-second g c = search rules

pub returns-in-Referral-clause-first : goal.returns-in-Referral-clause-first
unfolding proof
returns-in-Referral-clause-first g c = search rules

pub returns-in-Referral-clause-second : goal.returns-in-Referral-clause-second
unfolding proof
returns-in-Referral-clause-second g c = search rules

pub returns-in_default-clause-first : goal.returns-in_default-clause-first
unfolding proof
returns-in_default-clause-first g c = search rules

pub returns-in_default-clause-second : goal.returns-in_default-clause-second
unfolding proof
returns-in_default-clause-second g c = search rules
