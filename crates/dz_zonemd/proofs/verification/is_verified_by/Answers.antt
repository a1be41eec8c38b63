use Rattle.std.proofs.Common.{sym, ◌∙◌}
use Rattle.dz_zonemd.proofs.ClaimLemmas.{one_alone, none_alone}
use Rattle.dz_zonemd.proofs.verification.is_verified_by.Goals as goal

pub returns-in-Some-clause-value : goal.returns-in-Some-clause-value
returns-in-Some-clause-value g c =
    c.agrees.ensures.value ∙ one_alone c.args.algorithm c.args.apex.now c.args.records.now c.args.found.now
    c.in-Some.rr.now (sym c.count_of.ensures ∙ c.if-count_of-ne1.false) (sym c.in-Some.ensures)

pub returns-in-None-clause-value : goal.returns-in-None-clause-value
returns-in-None-clause-value g c =
    none_alone c.args.algorithm c.args.apex.now c.args.records.now c.args.found.now
    (sym c.count_of.ensures ∙ c.if-count_of-ne1.false) (sym c.in-None.ensures)
