use Rattle.dz_history.proofs.OwnLemmas.{records_own}
use Rattle.dz_history.proofs.laws.records_are_own.Goals as goal

pub returns : goal.returns
returns c = records_own
