use Rattle.dz_member.proofs.NumberLemmas.{key_back, key_usable}
use Rattle.dz_member.proofs.fold.Fold.key.Goals as goal

pub returns-clause-key : goal.returns-clause-key
returns-clause-key c =
    let m = c.membership.result.now in
    rw (c.membership.ensures.is, c.key_of.ensures, c.catalogs.ensures.catalogs)
    (key_back c.args.self.now.config m c.catalogs.ensures.fold.allowed c.membership.ensures.numbered)

pub returns-clause-usable : goal.returns-clause-usable
returns-clause-usable c =
    rw (c.key_of.ensures, c.catalogs.ensures.catalogs)
    (key_usable c.args.self.now.config c.membership.result.now.catalog c.catalogs.ensures.fold.allowed
    c.membership.ensures.numbered.catalog)
