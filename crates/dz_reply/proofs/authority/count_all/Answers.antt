use Rattle.std.proofs.Common.{arith}
use Rattle.dz_reply.specs.inner.Signed.{set_shown}
use Rattle.dz_reply.proofs.GlueLemmas.{counted, counted_all}
use Rattle.dz_reply.proofs.authority.count_all.Goals as goal

pub sets-preserved : goal.sets-preserved
sets-preserved c =
    record {
      count = counted set_shown c.args.sets.now c.sets.set-index c.sets.count c.count_signed.result c.set-item.result
          c.sets-test.true c.set-item.is c.count_signed.ensures.value c.sets.invariant.count;
      small = omega arith;
    }

pub returns-clause-value : goal.returns-clause-value
returns-clause-value c = counted_all set_shown c.args.sets.now c.sets.set-index c.sets.count c.sets-test.false
    c.sets.invariant.small c.sets.invariant.count
