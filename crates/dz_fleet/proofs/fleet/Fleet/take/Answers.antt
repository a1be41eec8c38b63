use Rattle.std.proofs.Common.{sym, ◌∙◌, ap, subst, arith}
use Rattle.std.specs.Prelude.{IsSome}
use Rattle.dz_history.specs.State.{State, incarnation_at}
use Rattle.dz_history.specs.After.{after}
use Rattle.dz_history.proofs.ListLemmas.{count_is}
use Rattle.dz_take.specs.Outcome.{outcome}
use Rattle.dz_fleet.specs.inner.Kept.{core_in}
use Rattle.dz_fleet.proofs.ListedLemmas.{listed_taken}
use Rattle.dz_fleet.proofs.SoundLemmas.{among_stands}
use Rattle.dz_fleet.proofs.TakeLemmas.{stands_some, room_more, taken_step}
use Rattle.dz_fleet.proofs.fleet.Fleet.take.Goals as goal

pub take-requires-clause-assigned : goal.take-requires-clause-assigned
take-requires-clause-assigned c =
    let k = c.self.invariant.0 in
    let i = c.self.inside in
    let f = rw (← c.self.view_is) at c.requires.flying in
    let none = rw (← c.self.view_is) at c.requires.standing in
    let stood =
    among_stands (core_in i.history i.tickets i.flying.items i.schedule) c.args.job.now k.sound f.there none in
    rw c.requires.transfer (subst (λ s. IsSome (incarnation_at s c.args.job.now.flight.zone)) (sym k.after)
    (stands_some (after i.history) c.args.job.now.flight.zone c.args.job.now.flight.incarnation stood))

pub take-requires-clause-moment : goal.take-requires-clause-moment
take-requires-clause-moment c = rw c.moment.ensures.moment c.moment.ensures.valid.moment

pub take-requires-clause-room : goal.take-requires-clause-room
take-requires-clause-room c =
    let k = c.self.invariant.0 in
    let i = c.self.inside in
    let f = rw (← c.self.view_is) at c.requires.flying in
    omega (
      arith,
      room_more (core_in i.history i.tickets i.flying.items i.schedule) c.args.job.now k.sound f.there,
      count_is i.history k.sound.legal,
      ap (λ (s : State). s.count) k.after,
    )

pub renewal-requires : goal.renewal-requires
renewal-requires c =
    let k = c.self.invariant.0 in
    let t = c.args.finished.now.transfer in
    let made = c.in_ok-holdings.ensures in
    rw (← c.self.view_is, ← k.after, made.state, made.aftermath)
    (listed_taken c.self.inside.holdings t.apex c.moment.result (outcome t c.args.finished.now.octets) k.state)

pub returns-clause-aftermath : goal.returns-clause-aftermath
returns-clause-aftermath c =
    let k = c.self.invariant.0 in
    let a = rw (c.requires.transfer, k.after) at c.in_ok-holdings.ensures.aftermath in
    rw (← c.self.view_is, c.requires.transfer) a

pub returns-clause-made : goal.returns-clause-made
returns-clause-made c =
    let k = c.self.invariant.0 in
    let i = c.self.inside in
    let j = c.args.job.now in
    let f = rw (← c.self.view_is) at c.requires.flying in
    let none = rw (← c.self.view_is) at c.requires.standing in
    let stood = among_stands (core_in i.history i.tickets i.flying.items i.schedule) j k.sound f.there none in
    let state = rw (c.requires.transfer, c.moment.ensures.moment) at c.in_ok-holdings.ensures.state in
    let is = state ∙ taken_step i.holdings (after i.history) j c.args.finished.now.octets k.after (f.held stood) in
    let r = rw is at c.in_ok-renewal.ensures.renewed in
    let v = rw (← c.self.view_is, is) at c.in_ok-renewal.ensures.values in
    rw (← c.self.view_is) record { renewed = r; values = v }
