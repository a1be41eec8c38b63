use Rattle.std.proofs.Common.{◌∙◌, sym}
use Rattle.dz_zonemd.proofs.ClaimLemmas.{found_verified, first_tells, second_tells}
use Rattle.dz_zonemd.proofs.verification.is_verified.Goals as goal

pub returns-then-is_verified_by-clause-value : goal.returns-then-is_verified_by-clause-value
returns-then-is_verified_by-clause-value g c =
    c.is_verified_by.ensures.value
    ∙ first_tells _ _ _ (sym c.is_verified_by.ensures.value ∙ c.if-is_verified_by.true)
    (found_verified c.args.apex.now c.args.records.now c.args.found.now c.requires.all)

pub returns-else-is_verified_by-clause-value : goal.returns-else-is_verified_by-clause-value
returns-else-is_verified_by-clause-value g c =
    c.is_verified_by-else-is_verified_by.ensures.value
    ∙ second_tells _ _ _ (sym c.is_verified_by.ensures.value ∙ c.if-is_verified_by.false)
    (found_verified c.args.apex.now c.args.records.now c.args.found.now c.requires.all)
