-- Rules that never lead back: the state at each place of a run isn't past the one that the whole input gives.
use Rattle.std.proofs.Common.{◌≡◌, ◌≤◌, ◌+◌, ◌-◌, ℕ, Bool, true, false, cond, nat_lt, List, [], ◌∷◌, ◌++◌, length}
use Rattle.std.proofs.Common.{take, Option, Some, None, Result, Ok, Err, refl, sym, ap, subst}
use Rattle.std.specs.Prelude.{OnErr}
use Rattle.dz_script.specs.Lines.{lines_of, content, IsClosedLine, TakesLine, TakesLast, TakesNone, TakesTooMuch}
use Rattle.dz_script.specs.Script.{Turn, goes_on, ends, Said, Rules, behind, turn_state, LeadsOn, DoesTurn, last_said}
use Rattle.dz_script.specs.Run.{Place, Step, further, over, after_turn, step_at, said_from, said_of}
use Rattle.dz_script.specs.Answers.{error_of, run_of}
use Rattle.dz_script.specs.declared.script.TurnError.{TurnError}
use Rattle.dz_script.specs.declared.lines.TheConstants.{LIMIT}
use Rattle.dz_script.proofs.ScriptLemmas.{Midway, said_of-midway, midway_line, line_ends}
use Rattle.dz_script.proofs.RunLemmas.{Mid, gives_some, cut_is, mid_end, mid_long, mid_last, last_said-ends}
use Rattle.dz_script.proofs.RunLemmas.{last_said-goes}

either : {A : Type 0} (P : A → Type 0) (b : Bool) (x y : A) → P x → P y → P (cond b x y)
either P true x y one two = one
either P false x y one two = two

module _ {S E : Type 0} (order : S → S → Type 0) (rules : Rules S E) (leads : LeadsOn order rules) where
  -- ---- one step
  abbrev step_state : Step S E → S
  step_state (further place) = place.state
  step_state (over said) = said.state

  turn_leads : (place : Place S) (octets : ℕ) (turn : Turn S E) → order place.state (turn_state turn)
      → order place.state (step_state (after_turn place octets turn))
  unfolding after_turn
  turn_leads place octets (goes_on text state) first = first
  turn_leads place octets (ends text state ending) first = first

  step_leads : (place : Place S) (line : List ℕ) → order place.state (step_state (step_at rules place line))
  unfolding step_at behind
  step_leads place line =
      either (λ step. order place.state (step_state step)) (nat_lt LIMIT (place.used + length line)) _ _
      (leads.too_long place.state place.number)
      (turn_leads place (length line) (rules.turn place.state place.number (content line))
      (leads.turn place.state place.number (content line)))

  -- ---- all steps from a place on
  from_step : (lines : List (List ℕ)) (state : S)
      → ((place : Place S) → order place.state (said_from rules place lines).state)
      → (step : Step S E) → order state (step_state step) → order state
      (elim step as (λ _. Said S E) [ further next ↦ said_from rules next lines | over said ↦ said ]).state
  from_step lines state rest (further place) first = leads.trans state place.state _ first (rest place)
  from_step lines state rest (over said) first = first

  said_leads : (lines : List (List ℕ)) (place : Place S) → order place.state (said_from rules place lines).state
  unfolding said_from behind
  said_leads [] place = leads.finish place.state place.number
  said_leads (line ∷ lines) place =
      from_step lines place.state (said_leads lines) (step_at rules place line) (step_leads place line)

  same_last : (state : S) (a b : Said S E) → a ≡ b → order state b.state → order state a.state
  same_last state a b same first = subst (λ (said : Said S E). order state said.state) (sym same) first

  -- ---- midway
  pub midway_leads : (start : S) (input : List ℕ) (state : S) (number used : ℕ) (rest written : List ℕ)
      → Midway rules start input state number used rest written → order state (said_of rules start input).state
  midway_leads start input state number used rest written so_far =
      same_last state _ _ (said_of-midway rules start input state number used rest written so_far)
      (said_leads (lines_of rest) (record { state = state; number = number; used = used; written = written }))

  line_leads : (start : S) (input : List ℕ) (state last : S) (number used : ℕ) (rest written line more : List ℕ)
      → Midway rules start input state number used rest written → IsClosedLine line → rest ≡ line ++ more
      → used + length line ≤ LIMIT
      → (turn : Turn S E) → rules.turn state number (content line) ≡ turn → order last (turn_state turn)
      → order last (said_of rules start input).state
  line_leads start input state last number used rest written line more so_far one split fits
      (goes_on text next) is first =
      leads.trans last next _ first
      (midway_leads start input next (number + 1) (used + length line) more (written ++ text)
      (midway_line rules start input state next number used rest written line more text so_far one split fits is))
  line_leads start input state last number used rest written line more so_far one split fits
      (ends text end ending) is first =
      same_last last _ _ (line_ends rules start input state number used rest written line more text end ending so_far
      one split fits is) first

  -- ---- between two lines, and each way out
  pub mid_leads : (start : S) (input : List ℕ) (state : S) (number used : ℕ) (front before held : Option (List ℕ))
      → Mid rules start input state number used front before held → order state (said_of rules start input).state
  mid_leads start input state number used front before held mid =
      midway_leads start input state number used mid.rest mid.written mid.midway

  pub halt_leads : (start : S) (input : List ℕ) (state last : S) (number used : ℕ) (line : List ℕ)
      (front after before held : Option (List ℕ)) → Mid rules start input state number used front before held
      → TakesLine used line front after
      → order last (turn_state (rules.turn state number (take (length line - 1) line)))
      → order last (said_of rules start input).state
  halt_leads start input state last number used line front after before held mid took first =
      let split = gives_some line mid.rest front after mid.ahead_is took.moved in
      let own : order last (turn_state (rules.turn state number (content line))) =
      rw (cut_is line took.closed) at first in
      line_leads start input state last number used mid.rest mid.written line split.0 mid.midway took.closed split.2
      took.fits (rules.turn state number (content line)) refl own

  -- what is said at the end has the last state, whatever was written before it
  behind_leads : (start last : S) (input written : List ℕ) (said : Said S E) → said_of rules start input
      ≡ behind written said → order last said.state → order last (said_of rules start input).state
  unfolding behind
  behind_leads start last input written said same first = same_last last _ _ same first

  ran_leads : (start last : S) (input written : List ℕ) (said : Said S E) (result : Result E TurnError)
      → said_of rules start input ≡ behind written said → OnErr result (order last said.state)
      → OnErr (run_of result) (order last (said_of rules start input).state)
  ran_leads start last input written said (Ok ending) same first = tt
  ran_leads start last input written said (Err error) same first =
      behind_leads start last input written said same first

  pub end_leads : (start : S) (input : List ℕ) (state last : S) (number used : ℕ)
      (line : List ℕ) (front after before held : Option (List ℕ)) (result : Result E TurnError)
      → Mid rules start input state number used front before held → TakesNone line front after
      → OnErr result (order last (rules.finish state number).state)
      → OnErr (run_of result) (order last (said_of rules start input).state)
  end_leads start input state last number used line front after before held result mid took =
      ran_leads start last input mid.written (rules.finish state number) result
      (mid_end rules start input state number used line front after before held mid took)

  pub long_leads : (start : S) (input : List ℕ) (state last : S) (number used : ℕ)
      (line : List ℕ) (front after before held : Option (List ℕ)) (result : Result E TurnError)
      → Mid rules start input state number used front before held → TakesTooMuch used line front after
      → OnErr result (order last (rules.too_long state number).state)
      → OnErr (run_of result) (order last (said_of rules start input).state)
  long_leads start input state last number used line front after before held result mid took =
      ran_leads start last input mid.written (rules.too_long state number) result
      (mid_long rules start input state number used line front after before held mid took)

  pub last_leads : (start : S) (input : List ℕ) (state last : S) (number used : ℕ)
      (line : List ℕ) (front after before held : Option (List ℕ)) (result : Result E TurnError)
      → Mid rules start input state number used front before held → TakesLast used line front after
      → OnErr result (order last (last_said rules state number line).state)
      → OnErr (run_of result) (order last (said_of rules start input).state)
  last_leads start input state last number used line front after before held result mid took =
      ran_leads start last input mid.written (last_said rules state number line) result
      (mid_last rules start input state number used line front after before held mid took)

  -- ---- a last line, and then the end of the input
  turn_then_finish : (state last : S) (number : ℕ) (line : List ℕ) (turn : Turn S E) → rules.turn state number line
      ≡ turn → order last (turn_state turn) → order last (last_said rules state number line).state
  unfolding behind
  turn_then_finish state last number line (goes_on text next) is first =
      same_last last _ _ (last_said-goes rules state next number line text is)
      (leads.trans last next _ first (leads.finish next (number + 1)))
  turn_then_finish state last number line (ends text end ending) is first =
      same_last last _ _ (last_said-ends rules state end number line text ending is) first

  pub last_turn_leads : (state last : S) (number : ℕ) (line : List ℕ)
      → order last (turn_state (rules.turn state number line)) → order last (last_said rules state number line).state
  last_turn_leads state last number line first =
      turn_then_finish state last number line (rules.turn state number line) refl first

  finish_so : (next last : S) (number : ℕ) (text : List ℕ) (said : Said S E) (result : Result E TurnError)
      → said ≡ behind text (rules.finish next number) → OnErr result (order last (rules.finish next number).state)
      → OnErr result (order last said.state)
  unfolding behind
  finish_so next last number text said (Ok ending) same first = tt
  finish_so next last number text said (Err error) same first = same_last last _ _ same first

  pub last_finish_leads : (state next last : S) (number : ℕ) (line : List ℕ) (before middle : Option (List ℕ))
      (result : Result E TurnError) → DoesTurn (rules.turn state number line) None next before middle
      → OnErr result (order last (rules.finish next (number + 1)).state)
      → OnErr result (order last (last_said rules state number line).state)
  last_finish_leads state next last number line before middle result (text, turn, gained) first =
      finish_so next last (number + 1) text _ result (last_said-goes rules state next number line text turn) first
