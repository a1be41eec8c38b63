use Rattle.dz_timer.proofs.LawLemmas.{first_is_due_lem}
use Rattle.dz_timer.proofs.schedule_laws.first_is_due.Goals as goal

pub returns : goal.returns
returns c = first_is_due_lem
