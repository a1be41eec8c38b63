use Rattle.dz_fleet.proofs.CallLemmas.{calls}
use Rattle.dz_fleet.proofs.laws.calls_are_events.Goals as goal

pub returns : goal.returns
returns c = calls
