use Rattle.std.proofs.Common.{◌≡◌, ◌++◌, map, take, drop}
use Rattle.dz_fleet.specs.inner.Flying.{marked}
use Rattle.dz_fleet.proofs.settle.mark.Given as goal

abbrev pub invariant-jobs : goal.invariant-jobs
invariant-jobs l = l.f-items
    ≡ map (marked l.holdings l.position) (take l.f-index l.initial.f-items) ++ drop l.f-index l.initial.f-items
