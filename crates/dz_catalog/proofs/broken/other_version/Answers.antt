use Rattle.std.proofs.Common.{◌∙◌, ap}
use Rattle.std.specs.Prelude.{not}
use Rattle.std.specs.List.{list_any}
use Rattle.dz_name.specs.Name.{same_label}
use Rattle.dz_record.specs.Record.{Record}
use Rattle.dz_catalog.specs.Broken.{is_version, version_2}
use Rattle.dz_catalog.proofs.VersionLemmas.{other_kept}
use Rattle.dz_catalog.proofs.broken.other_version.Goals as goal

pub returns : goal.returns
returns c =
    c.has_other.ensures
    ∙ (ap (list_any (λ (r : Record). not (same_label r.rdata version_2))) c.versions.ensures ∙ other_kept
    (is_version c.args.version.now.apex) (λ r. not (same_label r.rdata version_2)) c.args.version.now.records)
