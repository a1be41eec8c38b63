use Rattle.dz_chunks.proofs.JoinLemmas.{few_chunks}
use Rattle.dz_chunks.proofs.laws.few_chunks.Goals as goal

pub returns : goal.returns
returns g c = λ chunks z. few_chunks chunks z
