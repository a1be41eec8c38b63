use Rattle.std.proofs.Common.{◌∙◌, ap}
use Rattle.dz_zone.specs.Version.{is_secure}
use Rattle.dz_zone.specs.inner.Kept.{zone_in}
use Rattle.dz_zone.proofs.KindsLemmas.{secure_counted}
use Rattle.dz_zone.proofs.version.Version.is_secure.Goals as goal

pub returns-clause-secure : goal.returns-clause-secure
returns-clause-secure c =
    secure_counted (zone_in c.self.inside.records.items) c.self.inside.kinds c.self.invariant.kinds_are
    ∙ ap is_secure c.self.view_is
