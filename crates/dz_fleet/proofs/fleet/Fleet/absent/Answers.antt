use Rattle.std.proofs.Common.{refl}
use Rattle.dz_fleet.proofs.AbsentLemmas.{any_ticket}
use Rattle.dz_fleet.proofs.fleet.Fleet.absent.Goals as goal

pub returns : goal.returns
returns c =
    rw (
      c.count.ensures.count,
      c.ticket.ensures,
      c.has_ticket.ensures,
      c.deref.ensures.value,
      c.ticket-2.ensures,
      ← c.self.view_is,
      any_ticket c.args.job.now.flight.ticket c.self.inside.flying.items,
    ) refl
