-- No line of `replay` leads back: the list of taken transfers only grows.
use Rattle.std.proofs.Common.{◌≡◌, ℕ, true, List, [], ◌∷◌, ◌++◌, refl, sym, ◌∙◌, ap, Option, Some, None, Result}
use Rattle.std.proofs.Common.{Ok, Err}
use Rattle.std.specs.Prelude.{OnErr}
use Rattle.std.proofs.lemmas.List.{append-nil}
use mathlib.Core.List.{IsPrefix}
use Rattle.dz_io.specs.declared.peer.Peer.{Peer}
use Rattle.dz_name.specs.Words.{Name, Octets}
use Rattle.dz_header.specs.declared.transport.Transport.{Transport}
use Rattle.dz_notify.specs.Notify.{notify_zone_in}
use Rattle.dz_script.specs.Line.{line_of}
use Rattle.dz_script.specs.Script.{turn_state, LeadsOn}
use Rattle.dz_script.specs.Run.{said_of}
use Rattle.dz_script.specs.Answers.{IsRun}
use Rattle.dz_script.specs.declared.run.ScriptError.{ScriptError}
use Rattle.dz_script.specs.declared.line.Event.{Event}
use Rattle.dz_script.specs.declared.line.Event.TheVariants.{Job, Take, Fail, Ask}
use Rattle.dz_script.specs.declared.line.Line.{Line}
use Rattle.dz_script.specs.declared.line.Line.TheVariants as lines
use Rattle.dz_job.specs.Job.{JobOf}
use Rattle.dz_fleet.specs.declared.due.Due.{Due}
use Rattle.dz_fleet.specs.declared.due.Due.TheVariants as due
use Rattle.dz_fleet.specs.Core.{Core, after_due, after_end, failed_core, ended_of}
use Rattle.dz_fleet.specs.Answers.{IsDue}
use Rattle.dz_fleet.specs.Events.{asked, ended, failed, notified, next, IsFrontOf}
use Rattle.dz_fleet.specs.Events as events
use Rattle.dz_fleet.proofs.GrowLemmas.{only_grows}
use Rattle.dz_desk.proofs.PrefixLemmas.{prefix_self, prefix_trans}
use Rattle.dz_run.specs.Flight.{job_in}
use Rattle.dz_run.specs.Running.{list_of_script}
use Rattle.dz_run.specs.Replaying.{State, opening, running, list_in, IsListBefore, job_turn, take_turn, fail_turn}
use Rattle.dz_run.specs.Replaying.{ask_turn, event_turn, event_line, line_turn, replay_turn, replay_finish}
use Rattle.dz_run.specs.Replaying.{replay_rules}
use Rattle.dz_run.specs.declared.answering.End.{End}

-- ---- lists
pub list_same : (c d : Core) → c ≡ d → IsPrefix c.list d.list
list_same c d is = ([], append-nil c.list ∙ ap (λ (x : Core). x.list) is)

pub state_same : (a b : State) → a ≡ b → IsListBefore a b
state_same a b is = ([], append-nil (list_in a) ∙ ap list_in is)

-- a list without elements
pub none_first : {A : Type 0} (xs ys : List A) → xs ≡ [] → IsPrefix xs ys
none_first xs ys none = (ys, ap (λ front. front ++ ys) none)

-- a state without entries
pub none_before : (a b : State) → list_in a ≡ [] → IsListBefore a b
none_before a b none = (list_in b, ap (λ front. front ++ list_in b) none)

-- another core with the same list
pub by_list : (c d : Core) (s : State) → d.list ≡ c.list → IsListBefore (running c) s → IsListBefore (running d) s
by_list c d s same before = (before.0, ap (λ front. front ++ before.0) same ∙ before.1)

-- ---- events
grown : (c : Core) (event : events.Event) → IsPrefix c.list (next c event).list
grown c event =
    let front : IsFrontOf c.list (next c event).list = only_grows c [] (event ∷ []) in
    (front.0, sym front.1)

due_list : (c : Core) (answer : Due) → (after_due c answer).list ≡ c.list
due_list c (due.Job job) = refl
due_list c (due.Idle quiet) = refl
due_list c (due.Full quiet) = refl
due_list c due.OutOfMemory = refl

pub due_core_list : (c d : Core) (now : ℕ) (answer : Due) → IsDue c now answer d → d.list ≡ c.list
due_core_list c d now (due.Job job) is = ap (λ (x : Core). x.list) is.1 ∙ due_list c (due.Job job)
due_core_list c d now (due.Idle quiet) is = ap (λ (x : Core). x.list) is.1
due_core_list c d now (due.Full quiet) is = ap (λ (x : Core). x.list) is.1
due_core_list c d now due.OutOfMemory is = ap (λ (x : Core). x.list) is

end_list : (c : Core) (job : JobOf) (now : ℕ) (o : Option ℕ) → (after_end c job now o).list ≡ c.list
end_list c job now None = refl
end_list c job now (Some position) = refl

pub failed_list : (c d : Core) (job : JobOf) (now : ℕ) → d ≡ failed_core c job now → d.list ≡ c.list
failed_list c d job now is = ap (λ (x : Core). x.list) is ∙ end_list c job now (ended_of c job)

pub job_leads : (c : Core) (moment : ℕ) → IsListBefore (running c) (turn_state (job_turn c moment))
job_leads c moment = grown c (asked moment true)

pub take_leads : (c : Core) (number moment : ℕ) (octets : Octets) (job : Option JobOf)
    → IsListBefore (running c) (turn_state (take_turn c number moment octets job))
take_leads c number moment octets None = prefix_self c.list
take_leads c number moment octets (Some job) = grown c (ended job octets moment)

fail_leads : (c : Core) (number moment : ℕ) (job : Option JobOf)
    → IsListBefore (running c) (turn_state (fail_turn c number moment job))
fail_leads c number moment None = prefix_self c.list
fail_leads c number moment (Some job) = grown c (failed job moment)

ask_leads : (c : Core) (moment : ℕ) (transport : Transport) (peer : Peer) (request : Octets) (zone : Option Name)
    → IsListBefore (running c) (turn_state (ask_turn c moment transport peer request zone))
ask_leads c moment transport peer request None = prefix_self c.list
ask_leads c moment transport peer request (Some zone) = grown c (notified peer zone)

pub event_leads : (c : Core) (number moment : ℕ) (event : Event)
    → IsListBefore (running c) (turn_state (event_turn c number moment event))
unfolding event_turn
event_leads c number moment Job = job_leads c moment
event_leads c number moment (Take ticket octets) = take_leads c number moment octets (job_in c.flight ticket)
event_leads c number moment (Fail ticket) = fail_leads c number moment (job_in c.flight ticket)
event_leads c number moment (Ask transport peer request) =
    ask_leads c moment transport peer request (notify_zone_in request)

-- ---- lines
event_line_leads : (c : Core) (number moment : ℕ) (event : Event)
    → IsListBefore (running c) (turn_state (event_line (running c) number moment event))
unfolding event_line
event_line_leads c number moment event = event_leads c number moment event

line_leads : (state : State) (number : ℕ) (line : Option Line)
    → IsListBefore state (turn_state (line_turn state number line))
unfolding line_turn
line_leads (opening config) number line =
    none_before (opening config) (turn_state (line_turn (opening config) number line)) refl
line_leads (running c) number None = prefix_self c.list
line_leads (running c) number (Some lines.Skip) = prefix_self c.list
line_leads (running c) number (Some (lines.Catalog settings)) = prefix_self c.list
line_leads (running c) number (Some (lines.Group name group)) = prefix_self c.list
line_leads (running c) number (Some (lines.Event moment event)) = event_line_leads c number moment event

pub turn_leads : (state : State) (number : ℕ) (line : Octets)
    → IsListBefore state (turn_state (replay_turn state number line))
unfolding replay_turn
turn_leads state number line = line_leads state number (line_of line)

pub finish_leads : (state : State) (number : ℕ) → IsListBefore state (replay_finish state number).state
unfolding replay_finish
finish_leads (opening []) number = prefix_self []
finish_leads (opening (settings ∷ config)) number = prefix_self []
finish_leads (running c) number = prefix_self c.list

pub replay_leads : LeadsOn IsListBefore replay_rules
replay_leads = record {
  trans = λ a b c. prefix_trans (list_in a) (list_in b) (list_in c);
  turn = turn_leads;
  too_long = λ state number. prefix_self (list_in state);
  finish = finish_leads;
}

-- where nothing is ordered
pub nothing_leads : {T E : Type 0} (r : Result T E) → OnErr r (Unit {0})
nothing_leads (Ok value) = tt
nothing_leads (Err error) = tt

-- ---- a run: its list begins that of the whole script
pub run_leads : (input : Octets) (result : Result End ScriptError) (state : State) (left held after : Option Octets)
    → IsRun replay_rules (opening []) input result state left held after
    → OnErr result (IsListBefore state (said_of replay_rules (opening []) input).state)
    → IsPrefix (list_in state) (list_of_script input)
run_leads input (Ok ending) state left held after run before = state_same state _ (sym run.0.1)
run_leads input (Err error) state left held after run before = before
