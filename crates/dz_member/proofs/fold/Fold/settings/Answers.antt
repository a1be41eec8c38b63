use Rattle.dz_member.proofs.NumberLemmas.{numbered_read, usable_read}
use Rattle.dz_member.proofs.fold.Fold.settings.Goals as goal

pub returns-clause-number : goal.returns-clause-number
returns-clause-number c =
    numbered_read c.args.self.now.config c.args.number c.index-catalogs-number.result c.catalogs.ensures.fold.allowed
    c.requires (rw c.catalogs.ensures.catalogs at c.index-catalogs-number.is)

pub returns-clause-usable : goal.returns-clause-usable
returns-clause-usable c =
    usable_read c.args.self.now.config c.args.number c.index-catalogs-number.result c.catalogs.ensures.fold.allowed
    c.requires (rw c.catalogs.ensures.catalogs at c.index-catalogs-number.is)
