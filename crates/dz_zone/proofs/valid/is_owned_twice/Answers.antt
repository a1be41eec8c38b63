use Rattle.std.proofs.Common.{sym, ◌∙◌}
use Rattle.dz_zone.proofs.AbsenceLemmas.{none_twice, no_alias}
use Rattle.dz_zone.proofs.valid.is_owned_twice.Goals as goal

pub returns-else-many : goal.returns-else-many
returns-else-many c = sym (none_twice _ _ (no_alias c.args.kind _ c.requires.single c.requires.other
    (sym c.requires.many ∙ c.if-many.false) c.requires.soa))
