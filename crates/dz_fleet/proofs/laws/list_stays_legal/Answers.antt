use Rattle.dz_fleet.proofs.EventLemmas.{stays_legal}
use Rattle.dz_fleet.proofs.laws.list_stays_legal.Goals as goal

pub returns : goal.returns
returns c = stays_legal
