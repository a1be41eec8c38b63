use Rattle.std.proofs.Common.{◌∙◌, ap}
use Rattle.std.specs.Ordering.{is_gt}
use Rattle.dz_zone.proofs.merging.put_owner.Goals as goal

pub returns : goal.returns
returns g c =
    λ owners is after. c.in_ok-put.ensures.index owners is (ap is_gt (c.in_ok-put.ensures.order owners is) ∙ after)
