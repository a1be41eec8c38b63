use Rattle.dz_axfr.proofs.KeptLemmas.{one_held, one_open}
use Rattle.dz_axfr.proofs.WholeLemmas.{owner_opens}
use Rattle.dz_axfr.proofs.whole.Whole.start.Goals as goal

pub invariant_of-result : goal.invariant_of-result
invariant_of-result c =
    rw (c.and-fed.ensures, c.nothing.ensures, c.in_ok-kept.ensures)
    (one_held _ c.args.first (owner_opens _ c.args.first c.owner-apex.ensures c.requires))

pub returns-clause-is_open : goal.returns-clause-is_open
returns-clause-is_open c =
    rw (c.and-fed.ensures, c.nothing.ensures)
    (one_open _ c.args.first (owner_opens _ c.args.first c.owner-apex.ensures c.requires))
