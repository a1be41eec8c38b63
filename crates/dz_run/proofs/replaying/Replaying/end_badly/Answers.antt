use Rattle.std.proofs.Common.{ap}
use Rattle.std.proofs.lemmas.Result.{err_from_is_err_and}
use Rattle.dz_run.specs.Kept.{Shown}
use Rattle.dz_run.proofs.KeptLemmas.{ended_turned, stopped_turned}
use Rattle.dz_run.proofs.replaying.Replaying.end_badly.Goals as goal

pub returns : goal.returns
returns g c = ended_turned c.args.self.now c.let_go.new.self c.end_at.new.self c.args.number c.in_ok-end.end
    (ap (λ (x : Shown). x.state) c.let_go.ensures) (ap (λ (x : Shown). x.written) c.let_go.ensures)
    (ap (λ (x : Shown). x.faults) c.let_go.ensures) c.in_ok-end.ensures

pub returns-in_err-end : goal.returns-in_err-end
returns-in_err-end g c =
    let p = err_from_is_err_and c.from_residual.result c.from_residual.ensures.1 in
    rw (p.1, p.2) (stopped_turned c.args.self.now c.let_go.new.self c.end_at.new.self c.args.number
    c.in_err-end.field-0.0 (ap (λ (x : Shown). x.state) c.let_go.ensures)
    (ap (λ (x : Shown). x.written) c.let_go.ensures) (ap (λ (x : Shown). x.faults) c.let_go.ensures)
    c.in_err-end.ensures)
