use Rattle.dz_gen.proofs.CatalogLemmas.{catalog_comes}
use Rattle.dz_gen.proofs.ChangedLemmas.{catalog_changes}
use Rattle.dz_gen.proofs.laws.catalog_comes.Goals as goal

pub returns : goal.returns
returns c = record { first = catalog_comes c.args.number; changes = catalog_changes c.args.number c.args.id }
