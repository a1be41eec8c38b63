use Rattle.std.proofs.Common.{sym, ◌∙◌}
use Rattle.dz_lookup.proofs.FoundLemmas.{no_renamer_at_all}
use Rattle.dz_lookup.proofs.found.apex_renamer.Goals as goal

pub returns-then-not-has_dnames-clause-renamer : goal.returns-then-not-has_dnames-clause-renamer
returns-then-not-has_dnames-clause-renamer g c =
    sym (no_renamer_at_all c.args.version.now c.args.version.now.apex c.has_dnames.ensures.valid.rises
    (sym c.if-not-has_dnames.true ∙ c.has_dnames.ensures.dnames))
