use Rattle.std.proofs.Common.{◌∙◌, ap, length}
use Rattle.std.specs.Prelude.{nat_lt}
use Rattle.std.proofs.lemmas.List.Sums.{length-filter}
use Rattle.dz_catalog.specs.Broken.{is_version}
use Rattle.dz_catalog.proofs.broken.version_twice.Goals as goal

pub returns : goal.returns
returns c = ap (nat_lt 1)
    (ap length c.versions.ensures ∙ length-filter (is_version c.args.version.now.apex) c.args.version.now.records)
