use Rattle.dz_run.specs.Kept.{core_in}
use Rattle.dz_run.proofs.KeptLemmas.{config_some}
use Rattle.dz_run.proofs.replaying.Replaying.begin.Goals as goal

pub start-requires-clause-config : goal.start-requires-clause-config
start-requires-clause-config g c = c.take-config.ensures.allowed
    (config_some c.self.inside.opening (core_in c.self.inside.stage) (rw (← c.self.view_is) at c.requires.some))
