use Rattle.dz_store.proofs.PayloadLemmas.{strictly_kept, strictly_forgotten}
use Rattle.dz_store.proofs.laws.reads_strictly.Goals as goal

pub returns : goal.returns
returns c = λ payload. (strictly_kept payload, strictly_forgotten payload)
