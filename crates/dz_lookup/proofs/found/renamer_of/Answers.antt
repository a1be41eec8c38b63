use Rattle.std.proofs.Common.{sym, ◌∙◌}
use Rattle.dz_lookup.proofs.FoundLemmas.{no_renamer_at_all}
use Rattle.dz_lookup.proofs.found.renamer_of.Goals as goal

pub returns-else-has_dnames : goal.returns-else-has_dnames
returns-else-has_dnames c = sym (no_renamer_at_all c.args.version.now c.args.owner.now c.has_dnames.ensures.valid.rises
    (sym c.if-has_dnames.false ∙ c.has_dnames.ensures.dnames))
