use Rattle.dz_member.proofs.LawLemmas.{keeps_state}
use Rattle.dz_member.proofs.laws.keeps_state.Goals as goal

pub returns : goal.returns
returns c = keeps_state
