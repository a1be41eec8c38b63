use Rattle.dz_fleet.proofs.FlightLemmas.{found_ended, found_there}
use Rattle.dz_fleet.proofs.fleet.Fleet.ended_of.Goals as goal

pub unreachable-requires : goal.unreachable-requires
unreachable-requires c =
    let f = rw (← c.self.view_is) at c.requires in
    let fs = c.self.inside.flying.items in
    found_there c.args.job.now.flight fs c.self.invariant.0.sound.apart f.there
    (rw (c.in-None.is, c.deref.ensures.value, c.ticket.ensures) at c.flying_of.ensures)

pub returns : goal.returns
returns c =
    let f = rw (← c.self.view_is) at c.requires in
    let fs = c.self.inside.flying.items in
    rw (← c.self.view_is)
    (found_ended c.self.inside.history c.args.job.now.flight fs c.in-Some.flying.now c.self.invariant.0.sound.apart
    c.self.invariant.0.marked f.there
    (rw (c.in-Some.is, c.deref.ensures.value, c.ticket.ensures) at c.flying_of.ensures))
