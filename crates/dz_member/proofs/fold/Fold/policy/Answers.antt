use Rattle.dz_member.proofs.NumberLemmas.{policy_back}
use Rattle.dz_member.proofs.fold.Fold.policy.Goals as goal

pub returns : goal.returns
returns c =
    rw (c.membership.ensures.is, c.policy_of.ensures, c.catalogs.ensures.catalogs)
    (policy_back c.args.self.now.config c.membership.result.now c.catalogs.ensures.fold.allowed
    c.membership.ensures.numbered)
