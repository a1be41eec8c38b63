use Rattle.std.proofs.Common.{arith}
use Rattle.dz_fleet.proofs.ReachLemmas.{below_counts, above_counts}
use Rattle.dz_fleet.proofs.ahead.count_within.Goals as goal

pub search-preserved-then-is_before : goal.search-preserved-then-is_before
search-preserved-then-is_before c =
    let below = below_counts c.args.zone.now c.args.fold.now.members _ c.is_before.result
    c.is_before.ensures c.if-is_before.true c.requires.order in
    record {
      low = omega (arith, below);
      high = c.search.invariant.high;
      within = c.search.invariant.within;
    }

pub search-preserved : goal.search-preserved
search-preserved c = record {
  low = c.search.invariant.low;
  high = above_counts c.args.zone.now c.args.fold.now.members _ c.is_before.result
      c.is_before.ensures c.if-is_before.false;
  within = omega (arith, c.search.invariant.within, c.search-test.true);
}
