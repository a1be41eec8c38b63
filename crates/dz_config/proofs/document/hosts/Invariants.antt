use Rattle.std.proofs.Common.{◌≡◌, map, take}
use Rattle.toml.specs.View.{view}
use Rattle.dz_config.specs.Document.{downstream_host}
use Rattle.dz_config.specs.Reading.{made, gathered}
use Rattle.dz_config.proofs.document.hosts.Given as goal

abbrev pub invariant-values : goal.invariant-values
invariant-values l =
    made (λ v. v.items) l.all ≡ gathered (map downstream_host (map view (take l.value-index l.values)))
