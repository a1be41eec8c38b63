use Rattle.std.proofs.Common.{◌≡◌, Some, map, ◌++◌, ◌∷◌, [], sym, ◌∙◌, ap, subst}
use Rattle.std.specs.Prelude.{filter, slice_set}
use Rattle.dz_timer.specs.Values.{succeeded}
use Rattle.dz_history.specs.State.{held_at}
use Rattle.dz_history.specs.After.{after}
use Rattle.dz_history.specs.Legal.{CanFollow}
use Rattle.dz_fleet.specs.Weighing.{octets_in}
use Rattle.dz_job.specs.Job.{refresh_in}
use Rattle.dz_fleet.specs.inner.Flying.{marked}
use Rattle.dz_fleet.specs.inner.Kept.{core_in, IsKept}
use Rattle.dz_fleet.proofs.KeptLemmas.{stay}
use Rattle.dz_fleet.proofs.TakenLemmas.{are_taken, taken_seated, taken_fits, taken_busy, taken_kept, taken_core}
use Rattle.dz_fleet.proofs.TakenLemmas.{some_place}
use Rattle.dz_fleet.specs.Last.{last_of}
use Rattle.dz_fleet.proofs.LastLemmas.{last_after}
use Rattle.dz_fleet.proofs.fleet.Fleet.end_taken.Goals as goal

pub own_place-place-requires : goal.own_place-place-requires
own_place-place-requires c =
    let i = c.self.inside in
    let o = octets_in c.args.entry.value in
    let j = c.args.job.now in
    let f = rw (← c.self.view_is) at c.requires.flying in
    let none = rw (← c.self.view_is) at c.requires.standing in
    let made = rw (← c.self.view_is) at c.requires.made in
    let are = are_taken c.renew.new.holdings i.history i.tickets i.flying.items i.schedule c.renew.new.schedule j o _ _
    made c.renew.ensures.state c.renew.ensures.values in
    rw c.zone-2.ensures (some_place c.renew.new.holdings j.flight.zone j.flight.incarnation
    (taken_seated i.holdings c.renew.new.holdings i.history i.tickets i.flying.items i.schedule
    c.renew.new.schedule c.self.invariant.0 j o f.there none c.held.ensures.state are))

pub at-requires : goal.at-requires
at-requires c =
    let i = c.self.inside in
    let o = octets_in c.args.entry.value in
    let j = c.args.job.now in
    let f = rw (← c.self.view_is) at c.requires.flying in
    let none = rw (← c.self.view_is) at c.requires.standing in
    let made = rw (← c.self.view_is) at c.requires.made in
    let are = are_taken c.renew.new.holdings i.history i.tickets i.flying.items i.schedule c.renew.new.schedule j o _ _
    made c.renew.ensures.state c.renew.ensures.values in
    let at = rw c.zone-2.ensures at c.own_place-place.ensures in
    taken_fits i.holdings c.renew.new.holdings i.history i.tickets i.flying.items i.schedule c.renew.new.schedule
    c.self.invariant.0 j o f.there none c.held.ensures.state are c.own_place-place.result at

pub succeeded-values-requires-clause-busy : goal.succeeded-values-requires-clause-busy
succeeded-values-requires-clause-busy c =
    let i = c.self.inside in
    let o = octets_in c.args.entry.value in
    let j = c.args.job.now in
    let f = rw (← c.self.view_is) at c.requires.flying in
    let none = rw (← c.self.view_is) at c.requires.standing in
    let made = rw (← c.self.view_is) at c.requires.made in
    let are = are_taken c.renew.new.holdings i.history i.tickets i.flying.items i.schedule c.renew.new.schedule j o _ _
    made c.renew.ensures.state c.renew.ensures.values in
    let at = rw c.zone-2.ensures at c.own_place-place.ensures in
    taken_busy i.holdings c.renew.new.holdings i.history i.tickets i.flying.items i.schedule c.renew.new.schedule
    c.self.invariant.0 j o f.there none c.held.ensures.state are c.own_place-place.result c.at.result at c.at.ensures

pub change-requires : goal.change-requires
change-requires c =
    let i = c.self.inside in
    let o = octets_in c.args.entry.value in
    let j = c.args.job.now in
    let f = rw (← c.self.view_is) at c.requires.flying in
    let none = rw (← c.self.view_is) at c.requires.standing in
    let made = rw (← c.self.view_is) at c.requires.made in
    let are = are_taken c.renew.new.holdings i.history i.tickets i.flying.items i.schedule c.renew.new.schedule j o _ _
    made c.renew.ensures.state c.renew.ensures.values in
    let at = rw c.zone-2.ensures at c.own_place-place.ensures in
    taken_fits i.holdings c.renew.new.holdings i.history i.tickets i.flying.items i.schedule c.renew.new.schedule
    c.self.invariant.0 j o f.there none c.held.ensures.state are c.own_place-place.result at

pub invariant_of-self : goal.invariant_of-self
invariant_of-self c =
    let i = c.self.inside in
    let o = octets_in c.args.entry.value in
    let j = c.args.job.now in
    let f = rw (← c.self.view_is) at c.requires.flying in
    let none = rw (← c.self.view_is) at c.requires.standing in
    let made = rw (← c.self.view_is) at c.requires.made in
    let are = are_taken c.renew.new.holdings i.history i.tickets i.flying.items i.schedule c.renew.new.schedule j o _ _
    made c.renew.ensures.state c.renew.ensures.values in
    let at = rw c.zone-2.ensures at c.own_place-place.ensures in
    let told = c.requires.follows c.moment.ensures.valid in
    let follows = subst (λ e. CanFollow (after i.history) e) c.requires.entry (rw (← c.self.view_is) at told) in (
      rw (
        c.change.ensures,
        c.mark.ensures,
        c.land.ensures,
        c.ticket.ensures,
        c.count-position.ensures,
        c.succeeded-values.ensures,
        c.and.ensures,
      )
          (subst (λ e. IsKept c.renew.new.holdings (i.history ++ e ∷ []) i.tickets
          (map (marked c.renew.new.holdings i.holdings.count) (filter (stay j.flight.ticket) i.flying.items))
          (slice_set c.renew.new.schedule c.own_place-place.result
          (succeeded c.at.result c.moment.result c.refresh_of-refresh.result))) (sym c.requires.entry)
          (taken_kept i.holdings c.renew.new.holdings i.history i.tickets i.flying.items i.schedule
          c.renew.new.schedule c.self.invariant.0 j o f.there none c.held.ensures.state are
          c.own_place-place.result c.at.result c.moment.result c.refresh_of-refresh.result follows
          at c.at.ensures)),
      rw (c.zone-3.ensures, c.moment-2.ensures.moment, c.and.ensures)
          (subst
          (λ e. Some (record { zone = j.flight.zone; moment = j.flight.moment }) ≡ last_of (i.history ++ e ∷ []))
          (sym c.requires.entry) (last_after i.history j o)),
    )

pub returns : goal.returns
returns c =
    let i = c.self.inside in
    let o = octets_in c.args.entry.value in
    let j = c.args.job.now in
    let f = rw (← c.self.view_is) at c.requires.flying in
    let none = rw (← c.self.view_is) at c.requires.standing in
    let made = rw (← c.self.view_is) at c.requires.made in
    let are = are_taken c.renew.new.holdings i.history i.tickets i.flying.items i.schedule c.renew.new.schedule j o _ _
    made c.renew.ensures.state c.renew.ensures.values in
    let at = rw c.zone-2.ensures at c.own_place-place.ensures in
    let refresh = rw (c.held.ensures.held, c.zone.ensures) at c.refresh_of-refresh.ensures in
    rw (
      ← c.self.view_is,
      c.change.ensures,
      c.mark.ensures,
      c.land.ensures,
      c.ticket.ensures,
      c.count-position.ensures,
      c.succeeded-values.ensures,
      c.and.ensures,
      c.moment.ensures.moment,
      refresh,
    )
    (ap (λ e. core_in (i.history ++ e ∷ []) i.tickets
    (map (marked c.renew.new.holdings i.holdings.count) (filter (stay j.flight.ticket) i.flying.items))
    (slice_set c.renew.new.schedule c.own_place-place.result (succeeded c.at.result j.flight.moment
    (refresh_in (held_at c.renew.new.holdings j.flight.zone))))) c.requires.entry ∙
    taken_core i.holdings c.renew.new.holdings i.history i.tickets i.flying.items i.schedule c.renew.new.schedule
    c.self.invariant.0 j o f.there none c.held.ensures.state are c.own_place-place.result c.at.result
    at c.at.ensures)
