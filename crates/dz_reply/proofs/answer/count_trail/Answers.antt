use Rattle.std.proofs.Common.{arith, [], ap, length}
use Rattle.dz_lookup.specs.inner.Links.{no_record}
use Rattle.dz_reply.proofs.TrailLemmas.{counted_more, counted_all, from_start}
use Rattle.dz_reply.proofs.answer.count_trail.Goals as goal

pub trail-init : goal.trail-init
trail-init c = record {
  count = omega (arith, ap length (from_start c.args.chain.now));
  few = omega arith;
}

pub trail-preserved : goal.trail-preserved
trail-preserved c = record {
  count = counted_more c.args.chain.now c.trail.number c.trail.count c.count_step-count.result
      ([], no_record) (omega (arith, c.len-number-end.ensures.value))
      (c.count_step-count.ensures.value ([], no_record)) c.trail.invariant.count;
  few = omega arith;
}

pub returns-clause-value : goal.returns-clause-value
returns-clause-value c = counted_all c.args.chain.now c.trail.number c.trail.count
    (omega (arith, c.len-number-end.ensures.value)) c.trail.invariant.count
