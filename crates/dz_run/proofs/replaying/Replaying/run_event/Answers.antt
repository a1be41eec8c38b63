use Rattle.std.proofs.Common.{◌≡◌, refl, ◌∙◌, ap}
use Rattle.dz_run.specs.Kept.{Shown}
use Rattle.dz_script.specs.Script.{turn_state}
use Rattle.dz_run.specs.Replaying.{running, IsListBefore, event_turn}
use Rattle.dz_run.proofs.KeptLemmas.{run_of, run_still}
use Rattle.dz_run.proofs.LeadLemmas.{event_leads}
use Rattle.dz_run.proofs.replaying.Replaying.run_event.Goals as goal

pub returns-then-has_failed : goal.returns-then-has_failed
returns-then-has_failed g c d is number =
    let leads : IsListBefore c.args.self.now.state (turn_state (event_turn d number c.args.moment c.args.event.now)) =
    rw is (event_leads d number c.args.moment c.args.event.now) in
    let r = c.in-Some-Running in
    rw (← c.self.view_is, r.is, r.field-0-is)
    (run_still _ _ _ number refl refl refl (rw (← c.self.view_is, r.is, r.field-0-is) at leads))

pub returns : goal.returns
returns g c d is number =
    let r = c.in-Some-Running in
    let at = ap (λ (x : Shown). x.state) c.self.view_is ∙ is in
    let here : running r.running.core ≡ running d = rw (r.is, r.field-0-is) at at in
    let core : r.running.core ≡ d = cc here in
    rw (← c.self.view_is, r.is, r.field-0-is, ← core)
    (run_of g.row.J.Denot g.K.Sink.held g.K.Sink.faults c.self.inside.opening r.running c.take_event.new.self _ number
    c.take_event.result (c.take_event.ensures number))
