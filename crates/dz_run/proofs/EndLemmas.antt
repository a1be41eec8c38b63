-- How a run of a script ends: without memory, and at the end of its input.
use Rattle.std.specs.Bool.{⊤}
use Rattle.std.proofs.Common.{◌≡◌, ◌≢◌, ◌+◌, ℕ, Bool, true, false, cond, nat_lt, List, [], ◌∷◌, length, Option, Some}
use Rattle.std.proofs.Common.{None, IsSome, Result, Ok, Err, refl, sym, ap}
use Rattle.std.proofs.lemmas.List.{append-nil}
use Rattle.dz_io.specs.Device.{Gains}
use Rattle.dz_script.specs.Lines.{lines_of, content}
use Rattle.dz_script.specs.Script.{Turn, goes_on, ends, Said, Rules, behind}
use Rattle.dz_script.specs.Run.{Place, beginning, Step, further, over, after_turn, step_at, said_from, said_of}
use Rattle.dz_script.specs.Run.{place_after, GoesToTheEnd}
use Rattle.dz_script.specs.Answers.{IsRun}
use Rattle.dz_script.specs.declared.lines.TheConstants.{LIMIT}
use Rattle.dz_script.specs.declared.run.ScriptError.{ScriptError}
use Rattle.dz_script.specs.declared.run.ScriptError.TheVariants as errors
use Rattle.dz_name.specs.Words.{Octets}
use Rattle.dz_run.specs.Running.{status_of, HasEnded}
use Rattle.dz_run.specs.declared.answering.End.{End}
use Rattle.dz_run.specs.declared.answering.End.TheVariants as endings
use Rattle.dz_run.specs.declared.status.Status.{Status}
use Rattle.dz_run.specs.declared.status.Status.TheVariants.{Done, NoMemory}

pub gains_none : (before : Option (List ℕ)) → Gains [] before before
gains_none None = refl
gains_none (Some held) = ap Some (sym (append-nil held))

-- what `Answers` and `Replays` say
abbrev pub Ran : {S : Type 0} → Rules S End → S → Octets → Status → Option Octets → Option Octets
    → Option Octets → Type 0
Ran {S} rules start input status left before after = (result : Result End ScriptError) × (state : S)
    × (status ≡ status_of result) × IsRun rules start input result state left before after

-- without memory to begin, nothing is written
pub no_memory : {S : Type 0} (rules : Rules S End) (start : S) (input : List ℕ) (left before : Option (List ℕ))
    → Ran rules start input NoMemory left before before
no_memory rules start input left before =
    (Err errors.OutOfMemory, start, refl, ([], gains_none before, ((said_of rules start input).text, refl)))

-- a turn that ends the script doesn't end it with Done
abbrev pub IsTurnBefore : {S : Type 0} → Turn S End → Type 0
IsTurnBefore (goes_on text state) = ⊤
IsTurnBefore (ends text state ending) = ending ≢ endings.Done

-- no line ends it so
pub record EndBefore {S : Type 0} (rules : Rules S End) : Type 0 where
  pub turn : (state : S) (number : ℕ) (line : Octets) → IsTurnBefore (rules.turn state number line)
  pub long : (state : S) (number : ℕ) → (rules.too_long state number).ending ≢ endings.Done

-- the same of a step
abbrev IsStepBefore : {S : Type 0} → Step S End → Type 0
IsStepBefore (further place) = ⊤
IsStepBefore (over said) = said.ending ≢ endings.Done

pub either : {A : Type 0} (P : A → Type 0) (b : Bool) (x y : A) → P x → P y → P (cond b x y)
either P true x y one two = one
either P false x y one two = two

after_before : {S : Type 0} (place : Place S) (octets : ℕ) (turn : Turn S End) → IsTurnBefore turn
    → IsStepBefore (after_turn place octets turn)
unfolding after_turn
after_before place octets (goes_on text state) before = tt
after_before place octets (ends text state ending) before = before

step_before : {S : Type 0} (rules : Rules S End) → EndBefore rules → (place : Place S) (line : Octets)
    → IsStepBefore (step_at rules place line)
unfolding step_at behind
step_before rules before place line = either IsStepBefore (nat_lt LIMIT (place.used + length line)) _ _
    (before.long place.state place.number) (after_before place (length line)
    (rules.turn place.state place.number (content line)) (before.turn place.state place.number (content line)))

at_step : {S : Type 0} (rules : Rules S End) (lines : List Octets)
    → ((place : Place S) → (said_from rules place lines).ending ≡ endings.Done
    → IsSome (place_after rules place lines)) → (step : Step S End) → IsStepBefore step
    → (elim step as (λ _. Said S End) [ further next ↦ said_from rules next lines | over said ↦ said ]).ending
    ≡ endings.Done
    → IsSome (elim step as (λ _. Option (Place S)) [ further next ↦ place_after rules next lines | over said ↦ None ])
at_step rules lines rest (further place) before is = rest place is
at_step rules lines rest (over said) before is = absurd (before is)

-- Done comes at the end alone
done_from : {S : Type 0} (rules : Rules S End) → EndBefore rules → (lines : List Octets) (place : Place S)
    → (said_from rules place lines).ending ≡ endings.Done → IsSome (place_after rules place lines)
unfolding said_from place_after
done_from rules before [] place is = refl
done_from rules before (line ∷ lines) place is = at_step rules lines (done_from rules before lines)
    (step_at rules place line) (step_before rules before place line) is

done_goes : {S : Type 0} (rules : Rules S End) → EndBefore rules → (start : S) (input : Octets)
    → (said_of rules start input).ending ≡ endings.Done → GoesToTheEnd rules start input
unfolding said_of
done_goes rules before start input is = done_from rules before (lines_of input) (beginning start) is

-- after Done nothing is left of the input
pub done_leaves : {S : Type 0} (rules : Rules S End) → EndBefore rules
    → (start : S) (input : Octets) (result : Result End ScriptError) (state : S) (left held after : Option Octets)
    → IsRun rules start input result state left held after → status_of result ≡ Done → left ≡ Some []
done_leaves rules before start input (Ok endings.Done) state left held after run is =
    run.1 (done_goes rules before start input run.0.0)
done_leaves rules before start input (Ok endings.BadInput) state left held after run is = cc
done_leaves rules before start input (Err errors.Read) state left held after run is = cc
done_leaves rules before start input (Err errors.Write) state left held after run is = cc
done_leaves rules before start input (Err errors.OutOfMemory) state left held after run is = cc

-- at the end of a script the state is its last one
pub ended_state : {S : Type 0} (rules : Rules S End) (start : S) (input : Octets) (result : Result End ScriptError)
    (state : S) (left held after : Option Octets) → IsRun rules start input result state left held after
    → HasEnded (status_of result) → state ≡ (said_of rules start input).state
ended_state rules start input (Ok ending) state left held after run is = sym run.0.1
ended_state rules start input (Err errors.Read) state left held after run is = absurd is
ended_state rules start input (Err errors.Write) state left held after run is = absurd is
ended_state rules start input (Err errors.OutOfMemory) state left held after run is = absurd is

-- and all of its text was written
pub ended_text : {S : Type 0} (rules : Rules S End) (start : S) (input : Octets)
    (result : Result End ScriptError) (state : S) (left : Option Octets) (written : Octets)
    → IsRun rules start input result state left (Some []) (Some written) → HasEnded (status_of result)
    → written ≡ (said_of rules start input).text
ended_text rules start input (Ok ending) state left written run is = cc run.0.2
ended_text rules start input (Err errors.Read) state left written run is = absurd is
ended_text rules start input (Err errors.Write) state left written run is = absurd is
ended_text rules start input (Err errors.OutOfMemory) state left written run is = absurd is

-- and where it ended with Done its text ends so
pub ended_done : {S : Type 0} (rules : Rules S End) (start : S) (input : Octets) (result : Result End ScriptError)
    (state : S) (left held after : Option Octets) → IsRun rules start input result state left held after
    → status_of result ≡ Done → (said_of rules start input).ending ≡ endings.Done
ended_done rules start input (Ok endings.Done) state left held after run is = run.0.0
ended_done rules start input (Ok endings.BadInput) state left held after run is = cc
ended_done rules start input (Err errors.Read) state left held after run is = cc
ended_done rules start input (Err errors.Write) state left held after run is = cc
ended_done rules start input (Err errors.OutOfMemory) state left held after run is = cc
