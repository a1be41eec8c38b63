use Rattle.std.proofs.Common.{sym, ◌∙◌, ap, subst, arith}
use Rattle.std.proofs.lemmas.Option.{get_or_from_slice_get}
use Rattle.dz_job.specs.Job.{JobOf}
use Rattle.dz_timer.specs.Values.{fresh}
use Rattle.dz_fleet.specs.Core.{job_at}
use Rattle.dz_fleet.specs.Answers.{IsDue}
use Rattle.dz_fleet.proofs.HandLemmas.{job_moment, late_test}
use Rattle.dz_fleet.proofs.fleet.Fleet.due_at.Goals as goal

pub hand_out-requires-clause-due : goal.hand_out-requires-clause-due
hand_out-requires-clause-due c =
    let v = get_or_from_slice_get c.self.inside.schedule c.args.place c.at.result fresh c.at.ensures in
    let m = ap (λ (j : JobOf). j.flight.moment) c.in-Ok.ensures ∙ job_moment c.args.self.now c.args.now c.args.place in
    rw (m, ← c.self.view_is, v)
    (late_test c.args.now c.at.result.timing.next (omega (arith, c.if-now-next.false, c.next.ensures.value)))

pub hand_out-requires-clause-job : goal.hand_out-requires-clause-job
hand_out-requires-clause-job c =
    let m = ap (λ (j : JobOf). j.flight.moment) c.in-Ok.ensures ∙ job_moment c.args.self.now c.args.now c.args.place in
    c.in-Ok.ensures ∙ ap (λ now. job_at c.args.self.now now c.args.place) (sym m)

pub returns-in-Ok-clause-due : goal.returns-in-Ok-clause-due
returns-in-Ok-clause-due c =
    let m = ap (λ (j : JobOf). j.flight.moment) c.in-Ok.ensures ∙ job_moment c.args.self.now c.args.now c.args.place in
    subst (λ now. IsDue c.args.self.now now c.hand_out.result c.hand_out.new.self) m c.hand_out.ensures.due
