use Rattle.dz_disk.proofs.CrashLemmas.{recovers}
use Rattle.dz_disk.proofs.laws.one_joins.Goals as goal

pub returns : goal.returns
returns c = λ reads list last file fits is left. recovers reads list last file fits is left
