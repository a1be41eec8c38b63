-- The last line's turn, and then the end of the input.
use Rattle.std.proofs.lemmas.Result.{err_from_is_err_and}
use Rattle.dz_script.proofs.RunLemmas.{last_halts, last_over, last_finishes}
use Rattle.dz_script.proofs.LeadLemmas.{last_turn_leads, last_finish_leads}
use Rattle.dz_script.proofs.run.last_turn.Goals as goal

pub returns-in_err-ending-clause-done : goal.returns-in_err-ending-clause-done
returns-in_err-ending-clause-done g c =
    let p = err_from_is_err_and c.from_residual.result c.from_residual.ensures.1 in
    rw p.1 (last_halts g.T.Script.rules (g.T.Script.state c.args.script.now) c.args.number c.args.line.now _ _
    c.in_err-ending.ensures.done)

pub returns-in-Some-clause-done : goal.returns-in-Some-clause-done
returns-in-Some-clause-done g c =
    last_over g.T.Script.rules (g.T.Script.state c.args.script.now) (g.T.Script.state c.turn.new.self) c.args.number
    c.args.line.now c.in-Some.ending _ _ (rw c.in-Some.is at c.in_ok-ending.ensures.done)

pub returns-in-None-clause-done : goal.returns-in-None-clause-done
returns-in-None-clause-done g c = last_finishes g.T.Script.rules (g.T.Script.state c.args.script.now)
    (g.T.Script.state c.turn.new.self) (g.T.Script.state c.finish.new.self) c.args.number c.args.line.now _ _ _
    c.finish.result (rw c.in-None.is at c.in_ok-ending.ensures.done) c.finish.ensures.done

pub returns-in_err-ending-clause-leads : goal.returns-in_err-ending-clause-leads
returns-in_err-ending-clause-leads g c leads =
    let p = err_from_is_err_and c.from_residual.result c.from_residual.ensures.1 in
    rw p.1 (last_turn_leads g.T.Script.Before g.T.Script.rules leads (g.T.Script.state c.args.script.now)
    (g.T.Script.state c.turn.new.self) c.args.number c.args.line.now c.in_err-ending.ensures.leads)

pub returns-in-None-clause-leads : goal.returns-in-None-clause-leads
returns-in-None-clause-leads g c leads =
    last_finish_leads g.T.Script.Before g.T.Script.rules leads (g.T.Script.state c.args.script.now)
    (g.T.Script.state c.turn.new.self) (g.T.Script.state c.finish.new.self) c.args.number c.args.line.now _ _
    c.finish.result (rw c.in-None.is at c.in_ok-ending.ensures.done) c.finish.ensures.leads
