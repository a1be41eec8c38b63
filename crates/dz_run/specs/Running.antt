-- Answer: how the program ends.
use Rattle.std.specs.Prelude.{◌≡◌, ◌≢◌, ◌≤◌, ◌⊎◌, ⊤, ℕ, List, [], length, codes, Option, None, Result, Ok, Err}
use Rattle.dz_io.specs.Counts.{HasRisen}
use Rattle.dz_io.specs.Device.{Gains, GainsPrefix}
use Rattle.std.specs.List.{All}
use Rattle.dz_script.specs.Run.{said_of}
use Rattle.dz_script.specs.Answers.{IsRun}
use Rattle.dz_history.specs.declared.entry.Entry.{Entry}
use Rattle.dz_desk.specs.Seen.{Book, Published, Viewed, IsAtRest}
use Rattle.dz_script.specs.declared.run.ScriptError.{ScriptError}
use Rattle.dz_script.specs.declared.run.ScriptError.TheVariants as errors
use Rattle.dz_run.specs.Answering.{State, answer_rules}
use Rattle.dz_run.specs.Replaying.{opening, list_in, replay_rules}
use Rattle.dz_run.specs.Replaying as replaying
use Rattle.dz_run.specs.declared.answering.End.{End}
use Rattle.dz_run.specs.declared.answering.End.TheVariants as endings
use Rattle.dz_run.specs.declared.status.Status.{Status}
use Rattle.dz_run.specs.declared.status.Status.TheVariants.{Done, Usage, BadInput, ReadFault, WriteFault, PortFault}
use Rattle.dz_run.specs.declared.status.Status.TheVariants.{NoMemory}
use Rattle.dz_words.specs.declared.words.Command.{Command}
use Rattle.dz_words.specs.declared.words.Command.TheVariants as commands
use Rattle.dz_words.specs.declared.words.WordsError.{WordsError}
use Rattle.dz_words.specs.declared.words.WordsError.TheVariants as errors_of_words
use Rattle.dz_produce.specs.Producing.{Runs}
use Rattle.dz_produce.specs.declared.saying.ProduceEnd.{ProduceEnd}
use Rattle.dz_produce.specs.declared.saying.ProduceEnd.TheVariants as produce_ends
use Rattle.dz_serve.specs.declared.status.ServeEnd.{ServeEnd}
use Rattle.dz_serve.specs.declared.status.ServeEnd.TheVariants as serve_ends
use Rattle.dz_name.specs.Words.{Octets}

-- the status of a run of a script
abbrev pub status_of : Result End ScriptError → Status
status_of (Ok endings.Done) = Done
status_of (Ok endings.BadInput) = BadInput
status_of (Err errors.Read) = ReadFault
status_of (Err errors.Write) = WriteFault
status_of (Err errors.OutOfMemory) = NoMemory

-- the status of a run of `produce`
abbrev pub status_of_produce : Result ProduceEnd ScriptError → Status
status_of_produce (Ok produce_ends.Done) = Done
status_of_produce (Ok produce_ends.BadInput) = BadInput
status_of_produce (Err error) = status_of (Err error)

-- the status of serving
abbrev pub status_after : ServeEnd → Status
status_after serve_ends.Done = Done
status_after serve_ends.BadInput = BadInput
status_after serve_ends.ReadFault = ReadFault
status_after serve_ends.WriteFault = WriteFault
status_after serve_ends.PortFault = PortFault
status_after serve_ends.NoMemory = NoMemory

-- `answer` ran its script over the input, and its status is that of the run
abbrev pub Answers : Octets → Status → Option Octets → Option Octets → Option Octets → Type 0
Answers input status left before after = (result : Result End ScriptError) × (state : State)
    × (status ≡ status_of result) × IsRun answer_rules None input result state left before after

-- `replay` ran its script over the input, and its status is that of the run; the published list is that of the run's
-- state
abbrev pub Replays : Octets → Status → Option Octets → Option Octets → Option Octets → List Entry → Type 0
Replays input status left before after list =
    (result : Result End ScriptError) × (state : replaying.State) × (status ≡ status_of result)
    × (list ≡ list_in state) × IsRun replay_rules (opening []) input result state left before after

-- `produce` ran its script over the input, and its status is that of the run
abbrev pub Produces : Octets → Status → Option Octets → Option Octets → Option Octets → Type 0
Produces input status left before after = (result : Result ProduceEnd ScriptError)
    × (status ≡ status_of_produce result) × Runs input result left before after

-- the list that the events of a script make
abbrev pub list_of_script : Octets → List Entry
list_of_script input = list_in (said_of replay_rules (opening []) input).state

-- a desk of six readings at rest, at which nothing was published
pub record IsNewDesk (end : Published) (readings : List Viewed) : Type 0 where
  pub list : end.list ≡ []
  pub staged : end.staged ≡ None
  pub six : length readings ≡ 6
  pub rest : All (IsAtRest end.book) readings

-- a desk's publisher came back, at which nothing is staged, and its six readings, each at rest
pub record IsBack (book : Book) (end : Published) (readings : List Viewed) : Type 0 where
  pub own : end.book ≡ book
  pub staged : end.staged ≡ None
  pub six : length readings ≡ 6
  pub rest : All (IsAtRest book) readings

-- a text was written and the status is this one, or the write failed after a prefix of the text
abbrev pub Says : Octets → Status → Status → Option Octets → Option Octets → Type 0
Says text own status before after =
    ((status ≡ own) × Gains text before after) ⊎ ((status ≡ WriteFault) × GainsPrefix text before after)

-- what is written where the words are none of the five forms
abbrev pub usage : Octets
usage = codes "usage: catzd answer | replay | rehearse N | serve | produce\n"

-- what the words decide, whatever the input: words that are none of the five forms say a line of their own; the
-- commands never say Usage
abbrev pub Decides : Result Command WordsError → Status → Option Octets → Option Octets → Type 0
Decides (Ok commands.Answer) status before after = status ≢ Usage
Decides (Ok commands.Replay) status before after = status ≢ Usage
Decides (Ok commands.Serve) status before after = status ≢ Usage
Decides (Ok (commands.Rehearse number)) status before after = status ≢ Usage
Decides (Ok commands.Produce) status before after = status ≢ Usage
Decides (Err errors_of_words.Usage) status before after = Says usage Usage status before after

-- the status tells of no failed read or write, and not that memory ran out
abbrev pub IsWithoutFault : Status → Type 0
IsWithoutFault Done = ⊤
IsWithoutFault Usage = ⊤
IsWithoutFault BadInput = ⊤
IsWithoutFault PortFault = ⊤
IsWithoutFault ReadFault = ⊥
IsWithoutFault WriteFault = ⊥
IsWithoutFault NoMemory = ⊥

-- the status is that of a script that was read to its end, or to a bad line
abbrev pub HasEnded : Status → Type 0
HasEnded Done = ⊤
HasEnded BadInput = ⊤
HasEnded Usage = ⊥
HasEnded PortFault = ⊥
HasEnded ReadFault = ⊥
HasEnded WriteFault = ⊥
HasEnded NoMemory = ⊥

-- the count of faults didn't fall, it is unchanged where the status tells of none of these, and it rose where the
-- status is this one
pub record HasCauseIn (before now : ℕ) (status fault : Status) : Type 0 where
  pub later : before ≤ now
  pub kept : IsWithoutFault status → now ≡ before
  pub failed : status ≡ fault → HasRisen before now
