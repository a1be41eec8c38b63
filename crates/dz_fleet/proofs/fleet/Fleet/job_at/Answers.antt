use Rattle.std.proofs.Common.{◌∙◌}
use Rattle.dz_fleet.proofs.MadeLemmas.{job_turn, job_primaries, job_made}
use Rattle.dz_fleet.proofs.fleet.Fleet.job_at.Goals as goal

pub primary-requires-clause-there : goal.primary-requires-clause-there
primary-requires-clause-there c =
    let i = c.self.inside in
    rw (← c.self.view_is) (job_primaries i.holdings i.history i.tickets i.flying.items i.schedule c.self.invariant.0
    c.args.place _ c.at-values.result c.seat_at-zone.ensures c.at-values.ensures)

pub primary-requires-clause-turn : goal.primary-requires-clause-turn
primary-requires-clause-turn c =
    let i = c.self.inside in
    rw (c.turn.ensures, ← c.self.view_is) (job_turn i.holdings i.history i.tickets i.flying.items i.schedule
    c.self.invariant.0 c.args.place _ c.at-values.result c.seat_at-zone.ensures c.at-values.ensures)

pub returns : goal.returns
returns c =
    let i = c.self.inside in
    let held = c.in_ok-held.ensures ∙ c.held.ensures.held in
    let key = c.copied-key.ensures ∙ c.key.ensures.key in
    let ask = rw c.is_whole.ensures at c.ask_of.ensures in
    let primary = rw (← c.self.view_is, c.turn.ensures) at c.primary.ensures in
    rw (← c.self.view_is)
    (c.prepared.ensures ∙ (c.new-job.ensures ∙ job_made i.holdings i.history i.tickets i.flying.items i.schedule
    c.self.invariant.0 c.args.place _ c.at-values.result c.seat_at-zone.ensures c.at-values.ensures c.args.now _
    _ _ _ _ c.count.ensures held key ask primary))
