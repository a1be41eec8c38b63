use Rattle.dz_member.proofs.NumberLemmas.{primaries_back}
use Rattle.dz_member.proofs.fold.Fold.primaries.Goals as goal

pub returns : goal.returns
returns c =
    rw (c.membership.ensures.is, c.primaries_of.ensures, c.catalogs.ensures.catalogs)
    (primaries_back c.args.self.now.config c.membership.result.now c.catalogs.ensures.fold.allowed
    c.membership.ensures.numbered)
