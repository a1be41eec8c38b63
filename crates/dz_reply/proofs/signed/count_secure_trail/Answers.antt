use Rattle.std.proofs.Common.{arith, []}
use Rattle.dz_lookup.specs.inner.Links.{no_record}
use Rattle.dz_reply.proofs.SignedLemmas.{counted_more, counted_all}
use Rattle.dz_reply.proofs.signed.count_secure_trail.Goals as goal

pub trail-init : goal.trail-init
trail-init c = record { count = omega arith; small = omega arith }

pub trail-preserved : goal.trail-preserved
trail-preserved c = record {
  count = counted_more c.args.signing.now.version.now.records c.args.signing.now.bare c.args.chain.now c.trail.number
      c.trail.count c.count_secure_step.result ([], no_record) (omega (arith, c.len-number-end.ensures.value))
      (c.count_secure_step.ensures.value ([], no_record)) c.trail.invariant.count;
  small = omega arith;
}

pub returns-clause-value : goal.returns-clause-value
returns-clause-value c =
    counted_all c.args.signing.now.version.now.records c.args.signing.now.bare c.args.chain.now c.trail.number
    c.trail.count (omega (arith, c.len-number-end.ensures.value)) c.trail.invariant.small c.trail.invariant.count
