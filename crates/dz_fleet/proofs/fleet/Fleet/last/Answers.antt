use Rattle.dz_fleet.proofs.LastLemmas.{last_refreshed}
use Rattle.dz_fleet.proofs.fleet.Fleet.last.Goals as goal

pub returns-clause-refreshed : goal.returns-clause-refreshed
returns-clause-refreshed c =
    rw (← c.self.view_is) (last_refreshed c.self.inside.history c.self.invariant.0.sound.legal)
