-- Answer: what the reader of a line answers, and what a run of a script leaves.
use Rattle.std.specs.Prelude.{◌≡◌, ⊤, Some, None, Result, Ok, Err, ℕ, List, [], Option}
use Rattle.dz_name.specs.Words.{Octets}
use Rattle.dz_script.specs.declared.line.Line.{Line}
use Rattle.dz_script.specs.declared.line.LineError.{LineError}
use Rattle.dz_script.specs.declared.line.LineError.TheVariants.{BadLine, OutOfMemory}
use Rattle.dz_script.specs.Line.{line_of}
use Rattle.dz_io.specs.Device.{Gains}
use Rattle.dz_script.specs.Script.{Rules, Says}
use Rattle.dz_script.specs.declared.script.TurnError.{TurnError}
use Rattle.dz_script.specs.declared.script.TurnError.TheVariants as turns
use Rattle.dz_script.specs.declared.run.ScriptError.{ScriptError}
use Rattle.dz_script.specs.declared.run.ScriptError.TheVariants as errors
use Rattle.dz_script.specs.Run.{said_of, GoesToTheEnd, IsPrefix, StopsIn}

-- the answer of a reader is what the line says
abbrev pub Reads : Octets → Result Line LineError → Type 0
Reads text (Ok line) = line_of text ≡ Some line
Reads text (Err BadLine) = line_of text ≡ None
Reads text (Err OutOfMemory) = ⊤

-- a step that stops is a run that stops
abbrev pub error_of : TurnError → ScriptError
error_of turns.Write = errors.Write
error_of turns.OutOfMemory = errors.OutOfMemory

-- the answer of a step that ends the script, as the run's
abbrev pub run_of : {E : Type 0} → Result E TurnError → Result E ScriptError
run_of (Ok ending) = Ok ending
run_of (Err stopped) = Err (error_of stopped)

-- the script ended, in this state and with this text; where no line ended it, nothing is left of the input
abbrev pub IsEnded : {S E : Type 0} → Rules S E → S → List ℕ → E → S → Option (List ℕ) → Option (List ℕ)
    → Option (List ℕ) → Type 0
IsEnded rules start input ending state left before after =
    Says (said_of rules start input) ending state before after × (GoesToTheEnd rules start input → left ≡ Some [])

-- a prefix of the script's text was written
abbrev pub IsCut : {S E : Type 0} → Rules S E → S → List ℕ → Option (List ℕ) → Option (List ℕ) → Type 0
IsCut rules start input before after =
    (written : List ℕ) × Gains written before after × IsPrefix written (said_of rules start input).text

-- the source failed: the text of the lines that were read whole was written, and the state is theirs
abbrev pub IsUnread : {S E : Type 0} → Rules S E → S → List ℕ → S → Option (List ℕ) → Option (List ℕ)
    → Option (List ℕ) → Type 0
IsUnread rules start input state left before after = (unread : List ℕ) × (written : List ℕ) × (left ≡ Some unread)
    × Gains written before after × StopsIn rules start input unread state written

-- what a run of a script leaves, by its answer: the last state, what is left of the input, and what was written
abbrev pub IsRun : {S E : Type 0} → Rules S E → S → List ℕ → Result E ScriptError → S → Option (List ℕ)
    → Option (List ℕ) → Option (List ℕ) → Type 0
IsRun rules start input (Ok ending) state left before after = IsEnded rules start input ending state left before after
IsRun rules start input (Err errors.Read) state left before after = IsUnread rules start input state left before after
IsRun rules start input (Err errors.Write) state left before after = IsCut rules start input before after
IsRun rules start input (Err errors.OutOfMemory) state left before after = IsCut rules start input before after
