use Rattle.dz_desk.proofs.RuleLemmas.{enters}
use Rattle.dz_desk.proofs.reading.enter_surely.Goals as goal

pub enter_as-requires : goal.enter_as-requires
enter_as-requires g c = enters _ _
