use Rattle.std.proofs.Common.{below_more, arith}
use Rattle.dz_name.proofs.wire.has_chain.Goals as goal

pub offsets-preserved : goal.offsets-preserved
offsets-preserved g c = record {
  none = below_more _ _ c.offsets.invariant.none (c.is_chained.ensures c.if-is_chained.false);
  steps = omega (arith, c.offsets.invariant.steps, c.tick.ensures);
}
