use Rattle.std.proofs.Common.{◌≡◌, ◌≢◌, ◌-◌, ◌^◌, get_or, sym, ◌∙◌}
use Rattle.dz_timer.proofs.ScheduleLemmas.{first_found, none_found}
use Rattle.dz_timer.proofs.schedule.Schedule.first.Goals as goal

pub returns-then-first : goal.returns-then-first
returns-then-first c =
    let s = c.self.inside in
    let first = c.in_ok-first.first in
    let never : get_or s.tournament first.place 0 ≡ 2 ^ 64 - 1 = sym c.in_ok-first.ensures.moment ∙ c.if-first.true in
    rw (← c.self.view_is)
    (none_found s.values.items s.tournament first.place c.self.invariant c.in_ok-first.ensures.least never)

pub returns : goal.returns
returns c =
    let s = c.self.inside in
    let first = c.in_ok-first.first in
    let waits : get_or s.tournament first.place 0 ≢ 2 ^ 64 - 1 =
    λ e. c.if-first.false (c.in_ok-first.ensures.moment ∙ e) in
    rw (← c.self.view_is)
    (first_found s.values.items s.tournament first.place c.self.invariant c.in_ok-first.ensures.least waits)
