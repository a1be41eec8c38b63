use Rattle.dz_ixfr.proofs.ChangeLemmas.{changes_all}
use Rattle.dz_ixfr.proofs.laws.changes_tell.Goals as goal

pub returns : goal.returns
returns c = changes_all
