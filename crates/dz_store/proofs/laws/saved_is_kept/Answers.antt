use Rattle.dz_store.proofs.StoreLemmas.{saved}
use Rattle.dz_store.proofs.laws.saved_is_kept.Goals as goal

pub returns : goal.returns
returns c = λ list k zone can. saved list k zone can
