use Rattle.dz_history.proofs.LawLemmas.{refusal}
use Rattle.dz_history.proofs.laws.refused_keeps.Goals as goal

pub returns : goal.returns
returns c = refusal
