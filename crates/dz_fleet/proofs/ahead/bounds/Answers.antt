use Rattle.std.proofs.Common.{arith}
use Rattle.dz_fleet.proofs.ReachLemmas.{below_counts, above_counts, counts_all}
use Rattle.dz_fleet.proofs.ahead.bounds.Goals as goal

pub returns-then-not-is_before-clause-high : goal.returns-then-not-is_before-clause-high
returns-then-not-is_before-clause-high c = above_counts c.args.zone.now c.args.fold.now.members _ c.is_before.result
    c.is_before.ensures c.if-not-is_before.true

pub steps-preserved : goal.steps-preserved
steps-preserved c =
    let below = below_counts c.args.zone.now c.args.fold.now.members _ c.is_before.result
    c.is_before.ensures c.if-not-is_before.false c.requires.order in
    record {
      count = c.steps.invariant.count;
      upward = omega (arith, c.steps.invariant.upward);
      low = omega (arith, below);
    }

pub returns-clause-high : goal.returns-clause-high
returns-clause-high c = omega (arith, counts_all c.args.zone.now c.args.fold.now.members)
