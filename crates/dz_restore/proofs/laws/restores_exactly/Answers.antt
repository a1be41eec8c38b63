use Rattle.dz_restore.proofs.RestoredLemmas.{restored_exactly}
use Rattle.dz_restore.proofs.laws.restores_exactly.Goals as goal

pub returns : goal.returns
returns c = restored_exactly
