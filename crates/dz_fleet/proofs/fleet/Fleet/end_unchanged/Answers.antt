use Rattle.std.proofs.Common.{sym}
use Rattle.dz_fleet.proofs.RelistLemmas.{some_primary}
use Rattle.dz_fleet.proofs.EndLemmas.{job_seated, place_fits, place_busy, kept_waiting, waiting_core, few_primaries}
use Rattle.dz_fleet.proofs.EndLemmas.{none_placed}
use Rattle.dz_fleet.proofs.fleet.Fleet.end_unchanged.Goals as goal

pub at-requires : goal.at-requires
at-requires c =
    let i = c.self.inside in
    let f = rw (← c.self.view_is) at c.requires.flying in
    let at = sym (rw (c.in-Some.is, c.zone-3.ensures) at c.place_of.ensures) in
    place_fits i.holdings i.history i.tickets i.flying.items i.schedule c.self.invariant.0 c.args.job.now f.there
    (rw (← c.self.view_is) at c.requires.standing) c.in-Some.place at

pub waits-values-requires-clause-busy : goal.waits-values-requires-clause-busy
waits-values-requires-clause-busy c =
    let i = c.self.inside in
    let f = rw (← c.self.view_is) at c.requires.flying in
    let at = sym (rw (c.in-Some.is, c.zone-3.ensures) at c.place_of.ensures) in
    place_busy i.holdings i.history i.tickets i.flying.items i.schedule c.self.invariant.0 c.args.job.now f.there
    (rw (← c.self.view_is) at c.requires.standing) c.in-Some.place c.at.result at c.at.ensures

pub waits-values-requires-clause-some : goal.waits-values-requires-clause-some
waits-values-requires-clause-some c = rw c.primaries_of-primaries.ensures
    (some_primary c.self.inside.holdings c.zone-2.result.now c.self.invariant.0.state)

pub waits-values-requires-clause-few : goal.waits-values-requires-clause-few
waits-values-requires-clause-few c = rw c.primaries_of-primaries.ensures
    (few_primaries c.self.inside.holdings c.zone-2.result.now c.self.invariant.0.state)

pub change-requires : goal.change-requires
change-requires c =
    let i = c.self.inside in
    let f = rw (← c.self.view_is) at c.requires.flying in
    let at = sym (rw (c.in-Some.is, c.zone-3.ensures) at c.place_of.ensures) in
    place_fits i.holdings i.history i.tickets i.flying.items i.schedule c.self.invariant.0 c.args.job.now f.there
    (rw (← c.self.view_is) at c.requires.standing) c.in-Some.place at

pub invariant_of-self : goal.invariant_of-self
invariant_of-self c =
    let i = c.self.inside in
    let f = rw (← c.self.view_is) at c.requires.flying in
    let at = sym (rw (c.in-Some.is, c.zone-3.ensures) at c.place_of.ensures) in
    let many = rw c.zone-2.ensures at c.primaries_of-primaries.ensures in (
      rw (c.change.ensures, c.land.ensures, c.ticket.ensures, c.waits-values.ensures, many)
          (kept_waiting i.holdings i.history i.tickets i.flying.items i.schedule c.self.invariant.0 c.args.job.now
          f.there (rw (← c.self.view_is) at c.requires.standing) c.in-Some.place c.at.result c.args.now
          c.retry_of-retry.result c.args.whole at
          (some_primary i.holdings c.args.job.now.flight.zone c.self.invariant.0.state)),
      c.self.invariant.1,
    )

pub invariant_of-self-in_default : goal.invariant_of-self-in_default
invariant_of-self-in_default c =
    let i = c.self.inside in
    let f = rw (← c.self.view_is) at c.requires.flying in
    let at = sym (rw (c.in_default.is, c.zone-3.ensures) at c.place_of.ensures) in
    none_placed i.holdings c.args.job.now.flight.zone c.args.job.now.flight.incarnation
    (job_seated i.holdings i.history i.tickets i.flying.items i.schedule c.self.invariant.0 c.args.job.now f.there
    (rw (← c.self.view_is) at c.requires.standing)) at

pub returns-in-Some : goal.returns-in-Some
returns-in-Some c =
    let i = c.self.inside in
    let f = rw (← c.self.view_is) at c.requires.flying in
    let at = sym (rw (c.in-Some.is, c.zone-3.ensures) at c.place_of.ensures) in
    let many = rw c.zone-2.ensures at c.primaries_of-primaries.ensures in
    let retry = rw (c.held.ensures.held, c.zone.ensures) at c.retry_of-retry.ensures in
    rw (← c.self.view_is, c.change.ensures, c.land.ensures, c.ticket.ensures, c.waits-values.ensures, many, retry)
    (waiting_core i.holdings i.history i.tickets i.flying.items i.schedule c.self.invariant.0 c.args.job.now f.there
    (rw (← c.self.view_is) at c.requires.standing) c.in-Some.place c.at.result c.args.now c.args.whole
    at c.at.ensures)

pub returns-in_default : goal.returns-in_default
returns-in_default c =
    let i = c.self.inside in
    let f = rw (← c.self.view_is) at c.requires.flying in
    let at = sym (rw (c.in_default.is, c.zone-3.ensures) at c.place_of.ensures) in
    none_placed i.holdings c.args.job.now.flight.zone c.args.job.now.flight.incarnation
    (job_seated i.holdings i.history i.tickets i.flying.items i.schedule c.self.invariant.0 c.args.job.now f.there
    (rw (← c.self.view_is) at c.requires.standing)) at
