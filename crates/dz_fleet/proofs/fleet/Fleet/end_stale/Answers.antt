use Rattle.std.proofs.Common.{refl}
use Rattle.dz_fleet.proofs.FlightLemmas.{landed_jobs}
use Rattle.dz_fleet.proofs.EndLemmas.{kept_stale}
use Rattle.dz_fleet.proofs.fleet.Fleet.end_stale.Goals as goal

pub invariant_of-self : goal.invariant_of-self
invariant_of-self c =
    let f = rw (← c.self.view_is) at c.requires.flying in (
      rw (c.land.ensures, c.ticket.ensures) (kept_stale c.self.inside.holdings c.self.inside.history
          c.self.inside.tickets c.self.inside.flying.items c.self.inside.schedule c.self.invariant.0 c.args.job.now
          f.there (rw (← c.self.view_is) at c.requires.ended)),
      c.self.invariant.1,
    )

pub returns : goal.returns
returns c = rw (
  ← c.self.view_is,
  c.land.ensures,
  c.ticket.ensures,
  landed_jobs c.args.job.now.flight.ticket c.self.inside.flying.items,
) refl
