use Rattle.dz_fleet.proofs.GrowLemmas.{only_grows}
use Rattle.dz_fleet.proofs.laws.list_only_grows.Goals as goal

pub returns : goal.returns
returns c = only_grows
