use Rattle.std.proofs.Common.{◌∙◌, ap}
use Rattle.std.specs.Ordering.{is_gt}
use Rattle.dz_zone.proofs.merging.with_run.Goals as goal

pub returns : goal.returns
returns g c = λ owners others d is are after. c.in_ok-index.ensures.index owners others is are
    (ap is_gt (c.in_ok-index.ensures.order owners others d is are) ∙ after)
