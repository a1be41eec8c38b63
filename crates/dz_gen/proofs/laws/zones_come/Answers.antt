use Rattle.dz_gen.proofs.ComesLemmas.{zones_come}
use Rattle.dz_gen.proofs.laws.zones_come.Goals as goal

pub returns : goal.returns
returns c = zones_come
