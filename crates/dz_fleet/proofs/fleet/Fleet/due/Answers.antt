use Rattle.dz_fleet.specs.inner.Kept.{core_in}
use Rattle.dz_fleet.proofs.HandLemmas.{quiet_none}
use Rattle.dz_fleet.proofs.fleet.Fleet.due.Goals as goal

pub quiet-requires-in-None : goal.quiet-requires-in-None
quiet-requires-in-None c =
    let i = c.self.inside in
    rw (← c.self.view_is) (quiet_none (core_in i.history i.tickets i.flying.items i.schedule) c.args.now
    (rw c.in-None.is at c.first.ensures))
