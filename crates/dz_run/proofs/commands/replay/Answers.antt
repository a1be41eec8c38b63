-- How the run of the script ends is how the program ends.
use Rattle.std.proofs.Common.{[], ◌++◌, Err, refl, sym, ◌∙◌, ap, subst}
use mathlib.Core.List.{IsPrefix}
use Rattle.dz_script.specs.Run.{said_of}
use Rattle.dz_script.specs.declared.run.ScriptError.TheVariants as errors
use Rattle.dz_run.specs.Running.{HasEnded, list_of_script}
use Rattle.dz_run.specs.Replaying.{opening, list_in, replay_rules}
use Rattle.dz_run.proofs.EndLemmas.{gains_none, done_leaves, ended_state}
use Rattle.dz_run.proofs.ReplayLemmas.{replay_ends}
use Rattle.dz_run.proofs.LeadLemmas.{replay_leads, run_leads}
use Rattle.dz_run.proofs.commands.replay.Goals as goal

pub returns-in-Err-clause-ends : goal.returns-in-Err-clause-ends
returns-in-Err-clause-ends g c octets told =
    let text = (said_of replay_rules (opening []) octets).text in
    (Err errors.OutOfMemory, opening [], refl, c.requires.ends.list, ([], gains_none _, (text, refl)))

pub returns-in-Ok-clause-ends : goal.returns-in-Ok-clause-ends
returns-in-Ok-clause-ends g c octets told = (
  c.run_script-ended.result,
  c.run_script-ended.new.script.state,
  c.status_of.ensures,
  c.close.ensures.ends.list,
  rw c.close.ensures.written (rw c.new-replaying.ensures at c.run_script-ended.ensures.ends octets told),
)

pub returns-in-Ok-clause-published : goal.returns-in-Ok-clause-published
returns-in-Ok-clause-published g c octets told is =
    let run = rw c.new-replaying.ensures at c.run_script-ended.ensures.ends octets told in
    c.close.ensures.ends.list ∙ ap list_in (ended_state replay_rules (opening []) octets c.run_script-ended.result
    c.run_script-ended.new.script.state _ _ _ run (subst HasEnded c.status_of.ensures is))

pub returns-in-Ok-clause-done : goal.returns-in-Ok-clause-done
returns-in-Ok-clause-done g c octets told is =
    let run = rw c.new-replaying.ensures at c.run_script-ended.ensures.ends octets told in
    done_leaves replay_rules replay_ends
    (opening []) octets c.run_script-ended.result c.run_script-ended.new.script.state
    (g.S.Source.left c.run_script-ended.new.input) _ _ run (sym c.status_of.ensures ∙ is)

pub returns-in-Err-clause-begins : goal.returns-in-Err-clause-begins
returns-in-Err-clause-begins g c octets told =
    (list_of_script octets, ap (λ front. front ++ list_of_script octets) c.requires.ends.list)

pub returns-in-Ok-clause-begins : goal.returns-in-Ok-clause-begins
returns-in-Ok-clause-begins g c octets told =
    let run = rw c.new-replaying.ensures at c.run_script-ended.ensures.ends octets told in
    let leads = rw c.new-replaying.ensures at c.run_script-ended.ensures.leads octets told replay_leads in
    let begins = run_leads octets c.run_script-ended.result c.run_script-ended.new.script.state
    (g.S.Source.left c.run_script-ended.new.input) _ _ run leads in
    subst (λ list. IsPrefix list (list_of_script octets)) (sym c.close.ensures.ends.list) begins
