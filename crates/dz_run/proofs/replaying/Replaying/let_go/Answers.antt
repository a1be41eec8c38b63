use Rattle.std.proofs.Common.{ap}
use Rattle.dz_run.specs.Kept.{Shown, shown, core_in}
use Rattle.dz_run.specs.Replaying.{State}
use Rattle.dz_run.proofs.KeptLemmas.{was_opening, was_running, left_by, left_running}
use Rattle.dz_run.proofs.replaying.Replaying.let_go.Goals as goal

pub returns-then-not-is_running : goal.returns-then-not-is_running
returns-then-not-is_running g c =
    let opens = rw (← c.self.view_is)
    at (was_opening _ _ (c.is_running.ensures c.requires) c.if-not-is_running.true) in
    rw (c.new.ensures, ← c.self.view_is)
    (ap (λ (s : State). record (shown g.K.Sink.held g.K.Sink.faults c.self.inside.opening c.self.inside.stage)
    { state = s }) (left_by c.self.inside.opening (core_in c.self.inside.stage) opens))

pub returns-else-not-is_running : goal.returns-else-not-is_running
returns-else-not-is_running g c =
    ap (λ (s : State). record c.args.self.now { state = s })
    (left_running _ (was_running _ _ (c.is_running.ensures c.requires) c.if-not-is_running.false))
