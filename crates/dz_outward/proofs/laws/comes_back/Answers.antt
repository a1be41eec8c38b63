use Rattle.dz_outward.proofs.RoundLemmas.{back}
use Rattle.dz_outward.proofs.laws.comes_back.Goals as goal

pub returns : goal.returns
returns c = back
