use Rattle.std.proofs.Common.{◌≡◌, sym, ◌∙◌, ap, refl, subst, None, map, ◌+◌, ◌++◌, ◌∷◌, []}
use Rattle.std.specs.Arc.{arc_value}
use Rattle.std.specs.Prelude.{option_map, slice_set}
use Rattle.std.proofs.lemmas.Option.{get_or_from_slice_get}
use Rattle.dz_timer.specs.Values.{fresh, departed}
use Rattle.dz_job.specs.Job.{IsJob}
use Rattle.dz_fleet.specs.declared.flight.Flying.{Flying}
use Rattle.dz_fleet.specs.declared.due.Due.TheVariants as due
use Rattle.dz_fleet.specs.Values.{value_at}
use Rattle.dz_fleet.specs.inner.Flying.{job_in}
use Rattle.dz_fleet.specs.inner.Kept.{core_in}
use Rattle.dz_fleet.proofs.HandLemmas.{first_idle, kept_due, flying_is, due_is, due_made, handed_flies, map_push}
use Rattle.dz_fleet.proofs.fleet.Fleet.hand_out.Goals.{in-Ok, in-Err}
use Rattle.dz_fleet.proofs.fleet.Fleet.hand_out.Goals as goal

pub departed-values-requires : goal.departed-values-requires
departed-values-requires c =
    let first = rw (← c.self.view_is) at c.requires.first in
    let v = get_or_from_slice_get c.self.inside.schedule c.args.place c.at.result fresh c.at.ensures in
    rw v at (first_idle c.self.inside.schedule c.args.place first).1

pub invariant_of-self : goal.invariant_of-self
invariant_of-self c =
    let i = c.self.inside in
    let f : Flying = record { flight = c.flight.result.now; held = c.of.result; key = c.of-2.result; ended = None } in
    let own : job_in f ≡ c.args.job = flying_is c.args.job f c.flight.ensures.flight
    (ap (option_map arc_value) c.of.ensures ∙ c.shared.ensures) (c.of-2.ensures ∙ c.shared_key.ensures) in
    let v = get_or_from_slice_get i.schedule c.args.place c.at.result fresh c.at.ensures in (
      rw (c.in-Ok.ensures.items, c.change.ensures, c.departed-values.ensures, ← v)
          (kept_due i.holdings i.history i.tickets i.flying.items i.schedule c.args.place c.args.job.flight.moment f
          c.self.invariant.0 (rw (← c.self.view_is) at c.requires.room) (rw (← c.self.view_is) at c.requires.first)
          (own ∙ (rw (← c.self.view_is) at c.requires.job)) (subst IsJob (sym own) c.flight.ensures.ready.valid) refl),
      c.self.invariant.1,
    )

pub returns-clause-due : goal.returns-clause-due
returns-clause-due c = elim c.match-push.branch [
  | in-Ok w ↦
      let i = c.self.inside in
      let f : Flying =
      record { flight = c.flight.result.now; held = c.of.result; key = c.of-2.result; ended = None } in
      let own : job_in f ≡ c.args.job = flying_is c.args.job f c.flight.ensures.flight
      (ap (option_map arc_value) c.of.ensures ∙ c.shared.ensures) (c.of-2.ensures ∙ c.shared_key.ensures) in
      let v = get_or_from_slice_get i.schedule c.args.place w.at.result fresh w.at.ensures in
      let first = rw (← c.self.view_is) at c.requires.first in
      rw (w.result-is, w.self-is) (
        ap due.Job c.requires.job ∙ due_is c.args.self.now c.args.job.flight.moment c.args.place c.requires.room
            c.requires.first c.requires.due,
        (rw (← c.self.view_is, w.in-Ok.ensures.items, w.change.ensures, w.departed-values.ensures, ← v)
            (due_made i.history i.tickets i.flying.items i.schedule f c.args.job c.args.place own first)),
      )
  | in-Err w ↦ rw (w.result-is, w.self-is, ← c.self.view_is, w.in-Err.ensures.items) refl
]

pub returns-clause-flying : goal.returns-clause-flying
returns-clause-flying c = elim c.match-push.branch [
  | in-Ok w ↦
      let i = c.self.inside in
      let f : Flying =
      record { flight = c.flight.result.now; held = c.of.result; key = c.of-2.result; ended = None } in
      let own : job_in f ≡ c.args.job = flying_is c.args.job f c.flight.ensures.flight
      (ap (option_map arc_value) c.of.ensures ∙ c.shared.ensures) (c.of-2.ensures ∙ c.shared_key.ensures) in
      let v = get_or_from_slice_get i.schedule c.args.place w.at.result fresh w.at.ensures in
      let k = kept_due i.holdings i.history i.tickets i.flying.items i.schedule c.args.place c.args.job.flight.moment f
      c.self.invariant.0 (rw (← c.self.view_is) at c.requires.room) (rw (← c.self.view_is) at c.requires.first)
      (own ∙ (rw (← c.self.view_is) at c.requires.job)) (subst IsJob (sym own) c.flight.ensures.ready.valid) refl in
      rw (w.result-is, w.self-is, w.in-Ok.ensures.items, w.change.ensures, w.departed-values.ensures, ← v)
      (handed_flies (core_in i.history (i.tickets + 1) (i.flying.items ++ f ∷ [])
      (slice_set i.schedule c.args.place (departed (value_at i.schedule c.args.place))))
      (map job_in i.flying.items) c.args.job k.sound
      (map_push job_in i.flying.items f ∙ ap (λ j. map job_in i.flying.items ++ j ∷ []) own))
  | in-Err w ↦ rw w.result-is tt
]
