use Rattle.std.proofs.Common.{sym, ◌∙◌}
use Rattle.dz_zone.proofs.AbsenceLemmas.{none_below}
use Rattle.dz_zone.proofs.valid.is_soa_below.Goals as goal

pub returns-else-many : goal.returns-else-many
returns-else-many c =
    sym (none_below c.args.apex.now c.args.records.now (sym c.requires.many ∙ c.if-many.false) c.requires.soa)
