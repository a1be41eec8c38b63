use Rattle.std.proofs.Common.{◌+◌, ◌/◌, ◌∙◌, arith, length-set, refl}
use Rattle.dz_timer.proofs.TournamentLemmas.{leaf_set, node_set, moments-set_inner, moments-set_leaf, earlier_at}
use Rattle.dz_timer.proofs.tournament.climb.Goals as goal

pub loop-at-init : goal.loop-at-init
loop-at-init c =
    let is = c.requires.is in
    let k = leaf_set c.args.nodes.now.items c.args.count c.args.wait is c.requires.within in
    record {
      some = omega (arith, c.requires.within);
      below = omega (arith, c.requires.within);
      size = omega (arith, is.size, length-set c.args.nodes.now.items (c.args.count + c.args.wait.place) c.args.wait);
      own = k.own;
      decided = k.decided;
      kept = refl;
    }

pub loop-at-preserved : goal.loop-at-preserved
loop-at-preserved c =
    let l = c.loop-at in
    let inv = l.invariant in
    let up = l.at / 2 in
    let is = earlier_at l.nodes.items up c.index.result.now c.index-in-loop-at.result.now c.earlier.result
    (omega (arith, inv.size, inv.below, c.loop-at-test.true)) c.index.ensures c.index-in-loop-at.ensures
    c.earlier.ensures in
    let k = node_set l.nodes.items c.args.count up c.earlier.result inv.size (omega arith)
    (omega arith) inv.own inv.decided is in
    record {
      some = omega arith;
      below = omega arith;
      size = omega (arith, length-set l.nodes.items up c.earlier.result);
      own = k.own;
      decided = k.decided;
      kept = moments-set_inner l.nodes.items c.args.count up c.earlier.result (omega arith) ∙ inv.kept;
    }

pub returns-clause-moments : goal.returns-clause-moments
returns-clause-moments c =
    c.loop-at.invariant.kept ∙ moments-set_leaf c.args.nodes.now.items c.args.count c.args.wait.place c.args.wait
