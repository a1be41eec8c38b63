use Rattle.std.proofs.Common.{◌∙◌, ap}
use Rattle.dz_zone.specs.Version.{has_dnames}
use Rattle.dz_zone.specs.inner.Kept.{zone_in}
use Rattle.dz_zone.proofs.KindsLemmas.{dnames_counted}
use Rattle.dz_zone.proofs.version.Version.has_dnames.Goals as goal

pub returns-clause-dnames : goal.returns-clause-dnames
returns-clause-dnames c =
    dnames_counted (zone_in c.self.inside.records.items) c.self.inside.kinds c.self.invariant.kinds_are
    ∙ ap has_dnames c.self.view_is
