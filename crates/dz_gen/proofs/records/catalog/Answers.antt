use Rattle.dz_gen.proofs.MadeLemmas.{catalog_text}
use Rattle.dz_gen.proofs.records.catalog.Goals as goal

pub named-requires : goal.named-requires
named-requires c = catalog_text
