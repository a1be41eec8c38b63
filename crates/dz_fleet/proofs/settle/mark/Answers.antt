use Rattle.std.proofs.Common.{arith}
use Rattle.std.proofs.lemmas.List.{get_or_default}
use Rattle.std.proofs.lemmas.List.Edits.{map_over_more}
use Rattle.dz_fleet.specs.inner.Flying.{marked}
use Rattle.dz_fleet.proofs.settle.mark.Goals as goal

pub jobs-preserved : goal.jobs-preserved
jobs-preserved c =
    rw c.ended_at-f.ensures
    (map_over_more (marked c.args.holdings.now c.args.position) c.deref_mut-f-items.result.now c.jobs.f-items
    c.jobs.f-index _ c.jobs-test.true c.jobs.invariant
    (get_or_default c.jobs.f-items c.jobs.f-index _ _ (omega (arith, c.jobs.auto.f-items, c.jobs-test.true))))
