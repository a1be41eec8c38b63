use Rattle.dz_timer.proofs.LawLemmas.{none_is_idle_lem}
use Rattle.dz_timer.proofs.schedule_laws.none_is_idle.Goals as goal

pub returns : goal.returns
returns c = none_is_idle_lem
