use Rattle.std.proofs.Common.{sym, ◌∙◌}
use Rattle.dz_fleet.proofs.WakeLemmas.{wake_fits, kept_wake, wake_core}
use Rattle.dz_fleet.proofs.fleet.Fleet.wake.Goals as goal

pub at-requires : goal.at-requires
at-requires c =
    let i = c.self.inside in
    wake_fits i.holdings i.history i.tickets i.flying.items i.schedule c.self.invariant.0 c.args.zone.now
    c.in-Some.place (sym c.place_of.ensures ∙ c.in-Some.is)

pub change-requires : goal.change-requires
change-requires c =
    let i = c.self.inside in
    wake_fits i.holdings i.history i.tickets i.flying.items i.schedule c.self.invariant.0 c.args.zone.now
    c.in-Some.place (sym c.place_of.ensures ∙ c.in-Some.is)

pub invariant_of-self : goal.invariant_of-self
invariant_of-self c =
    let i = c.self.inside in (
      rw (c.change.ensures, c.notified-values.ensures)
          (kept_wake i.holdings i.history i.tickets i.flying.items i.schedule c.self.invariant.0 c.args.zone.now
          c.in-Some.place c.at.result (sym c.place_of.ensures ∙ c.in-Some.is) c.at.ensures),
      c.self.invariant.1,
    )

pub returns-in-Some : goal.returns-in-Some
returns-in-Some c =
    let i = c.self.inside in
    rw (← c.self.view_is, c.change.ensures, c.notified-values.ensures)
    (wake_core i.holdings i.history i.tickets i.flying.items i.schedule c.self.invariant.0 c.args.zone.now
    c.in-Some.place c.at.result (sym c.place_of.ensures ∙ c.in-Some.is) c.at.ensures)
