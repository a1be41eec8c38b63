use Rattle.dz_desk.proofs.RuleLemmas.{enters}
use Rattle.dz_desk.proofs.reading.Reading.see.Goals as goal

pub enter_as-requires : goal.enter_as-requires
enter_as-requires c = enters _ _
