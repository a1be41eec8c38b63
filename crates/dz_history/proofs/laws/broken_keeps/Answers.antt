use Rattle.dz_history.proofs.LawLemmas.{broken}
use Rattle.dz_history.proofs.laws.broken_keeps.Goals as goal

pub returns : goal.returns
returns c = broken
