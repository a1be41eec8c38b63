use Rattle.std.proofs.Common.{sym, ◌∙◌}
use Rattle.dz_zone.proofs.AbsenceLemmas.{one_soa}
use Rattle.dz_zone.proofs.valid.is_soa_twice.Goals as goal

pub returns-else-many : goal.returns-else-many
returns-else-many c = sym (one_soa c.args.apex.now c.args.records.now (sym c.requires.many ∙ c.if-many.false))
