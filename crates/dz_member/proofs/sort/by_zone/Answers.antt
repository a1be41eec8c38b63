use Rattle.dz_member.proofs.OrderLemmas.{once, sorted_rise}
use Rattle.dz_member.proofs.sort.by_zone.Goals as goal

pub returns-clause-rises : goal.returns-clause-rises
returns-clause-rises c apart =
    rw (c.in_ok-order.ensures.is, c.in_ok-listed.ensures.is) (sorted_rise c.args.nodes.now apart)

pub returns-clause-once : goal.returns-clause-once
returns-clause-once c up = rw c.in_ok-listed.ensures.is at (once (λ p. p.node) _ _ c.in_ok-order.ensures.same up)
