use Rattle.dz_lookup.proofs.CountedLemmas.{few_comparisons}
use Rattle.dz_lookup.proofs.laws.few_comparisons.Goals as goal

pub returns : goal.returns
returns c = λ taken is. few_comparisons taken is
