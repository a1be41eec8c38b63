use Rattle.std.proofs.Common.{◌∙◌, ap}
use Rattle.dz_zone.specs.Version.{has_cuts}
use Rattle.dz_zone.specs.inner.Kept.{zone_in}
use Rattle.dz_zone.proofs.KindsLemmas.{cuts_counted}
use Rattle.dz_zone.proofs.version.Version.has_cuts.Goals as goal

pub returns-clause-cuts : goal.returns-clause-cuts
returns-clause-cuts c =
    cuts_counted (zone_in c.self.inside.records.items) c.self.inside.kinds c.self.invariant.kinds_are
    ∙ ap has_cuts c.self.view_is
