use Rattle.dz_take.proofs.DecidingLemmas.{decides_at, at_decides, undecided}
use Rattle.dz_take.proofs.laws.first_decides.Goals as goal

pub returns : goal.returns
returns c = record { first = decides_at; back = at_decides; none = undecided }
