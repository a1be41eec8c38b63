use Rattle.std.proofs.Common.{sym, ◌∙◌, ap, subst}
use Rattle.dz_script.specs.Script.{Said}
use Rattle.dz_run.specs.Kept.{Shown, HasEnded, core_in}
use Rattle.dz_run.specs.Replaying.{State, replay_finish}
use Rattle.dz_run.specs.declared.answering.End.{End}
use Rattle.dz_run.proofs.KeptLemmas.{opening_by, running_by, was_opening, was_running, finish_running, finish_config}
use Rattle.dz_run.proofs.KeptLemmas.{finish_none, said_done}
use Rattle.dz_run.proofs.KeptLemmas.{ended_done, ended_cause, ended_leads}
use Rattle.dz_run.proofs.LeadLemmas.{finish_leads}
use Rattle.dz_run.proofs.replaying.ReplayingScript.finish.Goals as goal

pub returns-then-is_running-clause-done : goal.returns-then-is_running-clause-done
returns-then-is_running-clause-done g c =
    let runs = running_by c.args.self.now.state
    (was_running _ _ (c.is_running.ensures (sym c.is_over.ensures ∙ c.if-is_over.false)) c.if-is_running.true) in
    said_done c.args.self.now _ (finish_running c.args.self.now.state runs.0 c.args.number runs.1)

pub returns-then-is_empty-clause-done : goal.returns-then-is_empty-clause-done
returns-then-is_empty-clause-done g c =
    let opens = was_opening _ _ (c.is_running.ensures (sym c.is_over.ensures ∙ c.if-is_over.false))
    c.if-is_running.false in
    let is = ap (λ (x : Shown). x.state) (sym c.self.view_is)
    ∙ opening_by c.self.inside.opening c.self.inside.opening (core_in c.self.inside.stage)
    (rw (← c.self.view_is) at opens) in
    let said = finish_none c.args.self.now.state c.self.inside.opening c.args.number is
    (sym c.is_empty.ensures ∙ c.if-is_empty.true) in
    ended_done c.args.self.now c.end_at.new.self _ c.end_at.result
    (ap (λ (x : Said State End). x.ending) said) (ap (λ (x : Said State End). x.state) said)
    (subst (λ text. HasEnded text c.args.self.now c.end_at.result c.end_at.new.self)
    (sym (ap (λ (x : Said State End). x.text) said)) c.end_at.ensures)

pub returns-then-is_empty-clause-cause : goal.returns-then-is_empty-clause-cause
returns-then-is_empty-clause-cause g c =
    ended_cause c.args.self.now c.end_at.new.self _ c.end_at.result c.end_at.ensures

pub returns-clause-done : goal.returns-clause-done
returns-clause-done g c =
    let opens = was_opening _ _ (c.is_running.ensures (sym c.is_over.ensures ∙ c.if-is_over.false))
    c.if-is_running.false in
    let is = ap (λ (x : Shown). x.state) (sym c.self.view_is)
    ∙ opening_by c.self.inside.opening c.self.inside.opening (core_in c.self.inside.stage)
    (rw (← c.self.view_is) at opens) in
    said_done c.args.self.now _ (finish_config c.args.self.now.state c.self.inside.opening c.args.number is
    (sym c.is_empty.ensures ∙ c.if-is_empty.false))

pub returns-then-is_over-clause-leads : goal.returns-then-is_over-clause-leads
returns-then-is_over-clause-leads g c = finish_leads c.args.self.now.state c.args.number

pub returns-then-is_empty-clause-leads : goal.returns-then-is_empty-clause-leads
returns-then-is_empty-clause-leads g c =
    let opens = was_opening _ _ (c.is_running.ensures (sym c.is_over.ensures ∙ c.if-is_over.false))
    c.if-is_running.false in
    let is = ap (λ (x : Shown). x.state) (sym c.self.view_is)
    ∙ opening_by c.self.inside.opening c.self.inside.opening (core_in c.self.inside.stage)
    (rw (← c.self.view_is) at opens) in
    let said = finish_none c.args.self.now.state c.self.inside.opening c.args.number is
    (sym c.is_empty.ensures ∙ c.if-is_empty.true) in
    ended_leads c.args.self.now c.end_at.new.self (replay_finish c.args.self.now.state c.args.number) _ c.end_at.result
    (ap (λ (x : Said State End). x.state) said) c.end_at.ensures
