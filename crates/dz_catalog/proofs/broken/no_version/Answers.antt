use Rattle.std.proofs.Common.{◌∙◌, sym}
use Rattle.dz_catalog.specs.Broken.{is_version}
use Rattle.dz_catalog.proofs.VersionLemmas.{nothing_kept}
use Rattle.dz_catalog.proofs.broken.no_version.Goals as goal

pub returns : goal.returns
returns c = c.is_empty.ensures ∙ nothing_kept
    (is_version c.args.version.now.apex) c.args.version.now.records c.versions.result.now (sym c.versions.ensures)
