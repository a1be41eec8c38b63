use Rattle.dz_store.proofs.StoreLemmas.{gone}
use Rattle.dz_store.proofs.laws.forgotten_is_gone.Goals as goal

pub returns : goal.returns
returns c = λ list z zone is. gone list z zone is
