use Rattle.std.proofs.Common.{arith, ◌-◌, ◌∙◌, sym}
use Rattle.dz_lookup.proofs.CountedLemmas.{searches_add, searches_more}
use Rattle.dz_runs.specs.Runs.{of_type, records_of}
use Rattle.dz_secure.specs.Secure.{nsec_of}
use Rattle.dz_secure.proofs.EvidenceLemmas.{own_gone, own_there}
use Rattle.dz_secure.proofs.evidence.at_cut.Goals as goal

pub returns-then-is_empty-clause-rrset : goal.returns-then-is_empty-clause-rrset
returns-then-is_empty-clause-rrset g c =
    let zone = c.args.version.now.records in
    let cut = c.args.cut.now in
    c.rrset_near.ensures.rrset ∙ sym (own_gone (of_type 43 (records_of zone cut)) (nsec_of zone cut)
    (rw c.rrset_near-own.ensures.rrset at c.if-is_empty.ensures))

pub returns-then-is_empty-clause-cost : goal.returns-then-is_empty-clause-cost
returns-then-is_empty-clause-cost g c =
    searches_add 1 1 _ (c.rrset_near-own.new.steps - c.args.steps.now)
    (c.rrset_near.new.steps - c.rrset_near-own.new.steps) _
    c.rrset_near-own.ensures.cost c.rrset_near.ensures.cost
    (omega (arith, c.rrset_near-own.ensures.counted, c.rrset_near.ensures.counted))

pub returns-else-is_empty-clause-rrset : goal.returns-else-is_empty-clause-rrset
returns-else-is_empty-clause-rrset g c =
    let zone = c.args.version.now.records in
    let cut = c.args.cut.now in
    c.rrset_near-own.ensures.rrset ∙ sym (own_there (of_type 43 (records_of zone cut)) (nsec_of zone cut)
    (rw c.rrset_near-own.ensures.rrset at c.if-is_empty.ensures))

pub returns-else-is_empty-clause-cost : goal.returns-else-is_empty-clause-cost
returns-else-is_empty-clause-cost g c = searches_more 1 2 _ _ (omega arith) c.rrset_near-own.ensures.cost
