use Rattle.dz_fleet.proofs.EventLemmas.{stays_sound}
use Rattle.dz_fleet.proofs.laws.core_stays_sound.Goals as goal

pub returns : goal.returns
returns c = stays_sound
