use Rattle.std.proofs.Common.{arith}
use Rattle.dz_name.proofs.OrderLemmas.{offset_lt, offset_step, more_at, all_at, starts_more, few_labels}
use Rattle.dz_name.proofs.name_ref.NameRef.starts.Goals as goal

pub bounds-wire-at : goal.bounds-wire-at
bounds-wire-at c = rw (c.labels.invariant.wire, c.labels.invariant.at) (offset_lt _ _)

pub bounds-starts-count : goal.bounds-starts-count
bounds-starts-count c = omega (arith, few_labels _ c.labels.invariant.name)

pub overflow_add-count : goal.overflow_add-count
overflow_add-count c = omega (arith, few_labels _ c.labels.invariant.name)

pub labels-smaller : goal.labels-smaller
labels-smaller c =
    omega (
      arith,
      more_at _ _ _ _ c.labels.invariant.name c.labels.invariant.wire c.labels.invariant.at
          c.labels.invariant.count c.labels-test.true,
    )

pub labels-preserved : goal.labels-preserved
labels-preserved c =
    let more = more_at _ _ _ _ c.labels.invariant.name c.labels.invariant.wire c.labels.invariant.at
    c.labels.invariant.count c.labels-test.true in
    record {
      wire = c.labels.invariant.wire;
      name = c.labels.invariant.name;
      at = rw (c.labels.invariant.wire, c.labels.invariant.at) (offset_step c.args.self.now c.labels.count more);
      count = omega arith;
      starts = starts_more _ _ _ _ c.labels.invariant.starts
          (omega (arith, few_labels _ c.labels.invariant.name)) c.labels.invariant.at;
    }

pub returns-clause-count : goal.returns-clause-count
returns-clause-count c = all_at _ _ _ _ c.labels.invariant.name c.labels.invariant.wire c.labels.invariant.at
    c.labels.invariant.count c.labels-test.false

pub returns-clause-starts : goal.returns-clause-starts
returns-clause-starts c = rw (returns-clause-count c) at c.labels.invariant.starts
