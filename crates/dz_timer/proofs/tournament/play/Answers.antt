use Rattle.std.proofs.Common.{◌-◌, ◌∙◌, arith, length-set}
use Rattle.dz_timer.proofs.TournamentLemmas.{lower_set, moments-set_inner, earlier_at}
use Rattle.dz_timer.proofs.tournament.play.Goals as goal

pub loop-at-preserved : goal.loop-at-preserved
loop-at-preserved c =
    let l = c.loop-at in
    let inv = l.invariant in
    let at = l.at - 1 in
    let is = earlier_at l.nodes.items at c.index.result.now c.index-in-loop-at.result.now c.earlier.result
    (omega (arith, inv.size, inv.below, c.loop-at-test.true)) c.index.ensures c.index-in-loop-at.ensures
    c.earlier.ensures in
    let k = lower_set l.nodes.items c.args.count at c.earlier.result inv.size (omega arith) (omega arith) inv.own
    (λ i from below. inv.decided i (omega arith) below) is in
    record {
      below = omega arith;
      size = omega (arith, length-set l.nodes.items at c.earlier.result);
      own = k.own;
      decided = k.decided;
      kept = moments-set_inner l.nodes.items c.args.count at c.earlier.result (omega arith) ∙ inv.kept;
    }
