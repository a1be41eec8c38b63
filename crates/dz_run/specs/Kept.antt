-- Meaning: what `replay` shows, by its stage: a configuration is read, a provisioner takes the events, or it has ended.
use Rattle.std.specs.Prelude.{⊤, ◌≡◌, ◌≤◌, ℕ, Bool, true, false, List, [], ◌∷◌, Option, Some, None, option_map, Result}
use Rattle.std.specs.Prelude.{Ok, Err}
use Rattle.dz_io.specs.Counts.{HasRisen}
use Rattle.dz_io.specs.Device.{Gains, GainsPrefix}
use Rattle.dz_script.specs.Script.{Turn, turn_text, turn_state, DoesTurn}
use Rattle.dz_script.specs.declared.script.TurnError.{TurnError}
use Rattle.dz_script.specs.declared.script.TurnError.TheVariants as stops
use Rattle.dz_name.specs.Words.{Octets}
use Rattle.dz_settings.specs.declared.config.CatalogSettings.{CatalogSettings}
use Rattle.dz_fleet.specs.Core.{Core, opened_core}
use Rattle.dz_desk.specs.Seen.{Book, Published, Viewed}
use Rattle.dz_run.specs.Replaying.{State, opening, running, list_in, IsListBefore, bad_line}
use Rattle.dz_run.specs.Phase.{state_in}
use Rattle.dz_run.specs.Taken.{IsAtRest, CanStart}
use Rattle.dz_run.specs.declared.stage.Stage.{Stage}
use Rattle.dz_run.specs.declared.stage.Stage.TheVariants as stage
use Rattle.dz_run.specs.declared.answering.End.{End}
use Rattle.dz_run.specs.declared.answering.End.TheVariants.{BadInput}
use Rattle.dz_run.specs.declared.events.Took.{Took}
use Rattle.dz_run.specs.declared.events.Took.TheVariants as took

-- the state, what was written, where it is told, the count of the output's faults, and whether it has ended
pub record Shown : Type 0 where
  pub state : State
  pub written : Option Octets
  pub faults : ℕ
  pub is_over : Bool

-- the core of the provisioner, or the last one
abbrev pub core_in : {K J : Type 0} → Option (Stage K J) → Option Core
core_in None = None
core_in (Some (stage.Reading ends starved)) = None
core_in (Some (stage.Running h)) = Some h.core
core_in (Some (stage.Over ends last)) = option_map (λ s. s.value) last

-- what was written, by the ends or by the provisioner
abbrev pub written_in : {K J : Type 0} → (K → Option Octets) → Option (Stage K J) → Option Octets
written_in held None = None
written_in held (Some (stage.Reading ends starved)) = held ends.output
written_in held (Some (stage.Running h)) = h.written
written_in held (Some (stage.Over ends last)) = held ends.output

-- the count of the output's faults, by the ends or by the provisioner
abbrev pub faults_in : {K J : Type 0} → (K → ℕ) → Option (Stage K J) → ℕ
faults_in faults None = 0
faults_in faults (Some (stage.Reading ends starved)) = faults ends.output
faults_in faults (Some (stage.Running h)) = h.faults
faults_in faults (Some (stage.Over ends last)) = faults ends.output

-- no event came yet
abbrev pub IsReading : {K J : Type 0} → Stage K J → Type 0
IsReading (stage.Reading ends starved) = ⊤
IsReading (stage.Running h) = ⊥
IsReading (stage.Over ends last) = ⊥

-- it has ended
abbrev pub has_ended : {K J : Type 0} → Option (Stage K J) → Bool
has_ended None = true
has_ended (Some (stage.Reading ends starved)) = false
has_ended (Some (stage.Running h)) = false
has_ended (Some (stage.Over ends last)) = true

-- what is shown, by the configuration that was read and the stage
abbrev pub shown : {K J : Type 0} → (K → Option Octets) → (K → ℕ) → List CatalogSettings → Option (Stage K J) → Shown
shown held faults config stage = record {
  state = state_in config (core_in stage);
  written = written_in held stage;
  faults = faults_in faults stage;
  is_over = has_ended stage;
}

-- a publisher of this list, with nothing staged, and a reading of it
pub record IsResting (publisher : Book) (state : State) (end : Published) (view : Viewed) : Type 0 where
  pub list : end.list ≡ list_in state
  pub staged : end.staged ≡ None
  pub own : end.book ≡ publisher
  pub rest : IsAtRest publisher view

-- a stage is there; before the first event nothing was published and nothing written, and after the end the list is
-- that of the last core
abbrev pub IsKept : {K J : Type 0} → Book → (K → Option Octets) → (K → ℕ) → Option (Stage K J) → Type 0
IsKept publisher held faults None = ⊥
IsKept publisher held faults (Some (stage.Reading ends starved)) =
    CanStart publisher (held ends.output) (faults ends.output) ends.publisher ends.reading
IsKept publisher held faults (Some (stage.Running h)) = ⊤
IsKept publisher held faults (Some (stage.Over ends last)) =
    IsResting publisher (state_in [] (option_map (λ s. s.value) last)) ends.publisher ends.reading

-- what a turn did: it was done, or stopped after a prefix of its text, with a list that begins that of its state
unfoldable pub HasTurned : Turn State End → Shown → Result (Option End) TurnError → Shown → Type 0
HasTurned turn a (Ok ended) b =
    DoesTurn turn ended b.state a.written b.written × ((b.faults ≡ a.faults) × (ended ≡ None → b.is_over ≡ false))
HasTurned turn a (Err error) b =
    GainsPrefix (turn_text turn) a.written b.written × ((a.faults ≤ b.faults)
    × ((error ≡ stops.Write → HasRisen a.faults b.faults) × IsListBefore b.state (turn_state turn)))

-- it ended with this text, in the same state; or it stopped there after a prefix of the text
unfoldable pub HasEnded : Octets → Shown → Result End TurnError → Shown → Type 0
HasEnded text a (Ok ending) b =
    (ending ≡ BadInput) × ((b.state ≡ a.state) × (Gains text a.written b.written × (b.faults ≡ a.faults)))
HasEnded text a (Err error) b = GainsPrefix text a.written b.written
    × ((a.faults ≤ b.faults) × ((error ≡ stops.Write → HasRisen a.faults b.faults) × (b.state ≡ a.state)))

-- the first event began with the configuration
pub record HasBegun (a b : Shown) : Type 0 where
  pub begun : (config : List CatalogSettings) → a.state ≡ opening config → b.state ≡ running (opened_core config)
  pub written : b.written ≡ a.written
  pub faults : b.faults ≡ a.faults
  pub over : b.is_over ≡ false

-- a configuration with a catalog was read, and no event came yet
abbrev pub HasConfig : State → Type 0
HasConfig (opening []) = ⊥
HasConfig (opening (settings ∷ config)) = ⊤
HasConfig (running c) = ⊥

-- there is a core
abbrev pub IsRunning : State → Type 0
IsRunning (opening config) = ⊥
IsRunning (running c) = ⊤

-- an event was run
unfoldable pub HasRun : Turn State End → ℕ → Shown → Result Took TurnError → Shown → Type 0
HasRun turn number a (Ok took.Done) b = HasTurned turn a (Ok None) b
HasRun turn number a (Ok took.Bad) b = (turn ≡ bad_line a.state number) × (b ≡ a)
HasRun turn number a (Err error) b = HasTurned turn a (Err error) b
