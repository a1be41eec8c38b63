-- Meaning: what the steps of a script say and do. The rules are the script's own; the lines, their numbers and the
-- limit of the input's octets are the same for each script.
use Rattle.std.specs.Prelude.{◌≡◌, ◌+◌, ℕ, List, ◌++◌, Option, Some, None}
use Rattle.dz_io.specs.Device.{Gains}

-- what a line does: it writes a text, and the script goes on in a new state, or ends in a last one
pub data Turn (S E : Type 0) : Type 0 where
  goes_on : List ℕ → S → Turn S E
  ends : List ℕ → S → E → Turn S E

-- a last text, the last state, and how the script ended
pub record Said (S E : Type 0) : Type 0 where
  pub text : List ℕ
  pub state : S
  pub ending : E

-- the rules of a script. Lines are numbered from 1
pub record Rules (S E : Type 0) : Type 0 where
  -- what a line does, in a state, by its number and its octets without the newline
  pub turn : S → ℕ → List ℕ → Turn S E
  -- what is said of the line that holds an octet past the limit, by its number, whatever the line is
  pub too_long : S → ℕ → Said S E
  -- what is said at the end of the input, by the number of lines plus 1
  pub finish : S → ℕ → Said S E

-- the text that a line writes
abbrev pub turn_text : {S E : Type 0} → Turn S E → List ℕ
turn_text (goes_on text state) = text
turn_text (ends text state ending) = text

-- the state that a line leaves
abbrev pub turn_state : {S E : Type 0} → Turn S E → S
turn_state (goes_on text state) = state
turn_state (ends text state ending) = state

-- the rules never lead back, by an order of the states
pub record LeadsOn {S E : Type 0} (order : S → S → Type 0) (rules : Rules S E) : Type 0 where
  pub trans : (a b c : S) → order a b → order b c → order a c
  pub turn : (state : S) (number : ℕ) (line : List ℕ) → order state (turn_state (rules.turn state number line))
  pub too_long : (state : S) (number : ℕ) → order state (rules.too_long state number).state
  pub finish : (state : S) (number : ℕ) → order state (rules.finish state number).state

-- what was written, and then this
unfoldable pub behind : {S E : Type 0} → List ℕ → Said S E → Said S E
behind written said = record said { text = written ++ said.text }

-- the text and the ending of a last line that has no newline, and of the end of the input after it
unfoldable pub last_said : {S E : Type 0} → Rules S E → S → ℕ → List ℕ → Said S E
last_said rules state number line =
    elim (rules.turn state number line) [
      | goes_on text next ↦ behind text (rules.finish next (number + 1))
      | ends text last ending ↦ record { text = text; state = last; ending = ending }
    ]

-- a turn was done: its text was written, and it went on in this state, or ended the script in it with this ending
abbrev pub DoesTurn : {S E : Type 0} → Turn S E → Option E → S → Option (List ℕ) → Option (List ℕ) → Type 0
DoesTurn turn None state before after = (text : List ℕ) × (turn ≡ goes_on text state) × Gains text before after
DoesTurn turn (Some ending) state before after =
    (text : List ℕ) × (turn ≡ ends text state ending) × Gains text before after

-- a last text was written, and the script ended with this ending, in this state
abbrev pub Says : {S E : Type 0} → Said S E → E → S → Option (List ℕ) → Option (List ℕ) → Type 0
Says said ending state before after = (said.ending ≡ ending) × (said.state ≡ state) × Gains said.text before after
