use Rattle.std.proofs.Common.{sym, ◌∙◌, ap}
use Rattle.std.proofs.lemmas.Result.{err_from_is_err_and}
use Rattle.dz_run.specs.Kept.{Shown}
use Rattle.dz_run.specs.Replaying.{bad_line}
use Rattle.dz_run.proofs.KeptLemmas.{run_done, run_stopped, run_same, runs_core, turned_from}
use Rattle.dz_run.proofs.replaying.Replaying.go_on.Goals as goal

pub returns-in_err-run_event : goal.returns-in_err-run_event
returns-in_err-run_event g c d is =
    let p = err_from_is_err_and c.from_residual.result c.from_residual.ensures.1 in
    rw (p.1, p.2) (run_stopped c.args.self.now c.run_event.new.self _ c.args.number c.in_err-run_event.field-0.0
    (c.in_err-run_event.ensures d is c.args.number))

pub returns-in-Done : goal.returns-in-Done
returns-in-Done g c d is =
    let ran = c.in_ok-run_event.ensures d is c.args.number in
    run_done c.args.self.now c.run_event.new.self _ c.args.number (rw c.in-Done.is at ran)

pub end_badly-requires : goal.end_badly-requires
end_badly-requires g c =
    let core = runs_core c.args.self.now.state c.requires.runs in
    let ran = c.in_ok-run_event.ensures core.0 core.1 c.args.number in
    let same = run_same c.args.self.now c.run_event.new.self _ c.args.number (rw c.in-Bad.is at ran) in
    ap (λ (x : Shown). x.is_over) same.1 ∙ c.requires.goes

pub returns : goal.returns
returns g c d is =
    let ran = c.in_ok-run_event.ensures d is c.args.number in
    let same = run_same c.args.self.now c.run_event.new.self _ c.args.number (rw c.in-Bad.is at ran) in
    turned_from c.args.self.now c.run_event.new.self c.end_badly.new.self _ _ c.end_badly.result
    (same.0 ∙ ap (λ (x : Shown). bad_line x.state c.args.number) (sym same.1)) (ap (λ (x : Shown). x.written) same.1)
    (ap (λ (x : Shown). x.faults) same.1) c.end_badly.ensures
