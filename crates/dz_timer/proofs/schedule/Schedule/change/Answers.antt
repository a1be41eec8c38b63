use Rattle.std.proofs.Common.{◌∙◌, ap, ℕ}
use Rattle.std.proofs.Math.ListN.{set}
use Rattle.dz_timer.proofs.ScheduleLemmas.{kept_set}
use Rattle.dz_timer.proofs.schedule.Schedule.change.Goals as goal

pub invariant_of-self : goal.invariant_of-self
invariant_of-self c =
    let s = c.self.inside in
    kept_set s.values.items s.tournament c.change.new.self c.args.place c.args.values c.self.invariant
    c.wait_of.ensures.soon
    (c.change.ensures ∙ ap (λ (n : ℕ). set s.tournament c.args.place n) c.wait_of.ensures.value)
