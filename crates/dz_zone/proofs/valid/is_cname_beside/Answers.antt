use Rattle.std.proofs.Common.{sym, ◌∙◌}
use Rattle.dz_zone.proofs.AbsenceLemmas.{no_cname}
use Rattle.dz_zone.proofs.valid.is_cname_beside.Goals as goal

pub returns-else-many : goal.returns-else-many
returns-else-many c = sym (no_cname _ (sym c.requires.many ∙ c.if-many.false) c.requires.soa)
