use Rattle.dz_history.proofs.LawLemmas.{empty}
use Rattle.dz_history.proofs.laws.begins_empty.Goals as goal

pub returns : goal.returns
returns c = empty
