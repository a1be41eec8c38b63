-- Answer: how an event was taken, and the state before and after it.
use Rattle.std.specs.Prelude.{⊤, ◌≡◌, ◌≤◌, ℕ, false, [], Option, None, Result, Ok, Err, IfSome}
use Rattle.dz_io.specs.Counts.{HasRisen}
use Rattle.dz_io.specs.Device.{GainsPrefix}
use Rattle.dz_script.specs.Script.{Turn, turn_text, turn_state, DoesTurn}
use Rattle.dz_script.specs.declared.script.TurnError.{TurnError}
use Rattle.dz_script.specs.declared.script.TurnError.TheVariants as stops
use Rattle.dz_name.specs.Words.{Octets}
use Rattle.dz_job.specs.declared.verdict.Failure.{Failure}
use Rattle.dz_job.specs.declared.verdict.Verdict.{Verdict}
use Rattle.dz_job.specs.declared.verdict.Verdict.TheVariants.{OutOfMemory}
use Rattle.dz_desk.specs.Seen.{Book, Page, Published, Viewed}
pub use Rattle.dz_desk.specs.Seen.{IsAtRest}
use Rattle.dz_provision.specs.declared.provisioner.LogFault.{LogFault}
use Rattle.dz_provision.specs.declared.provisioner.Unmade.{Unmade}
use Rattle.dz_provision.specs.declared.provisioner.Unmade.TheVariants as unmades
use Rattle.dz_provision.specs.Held.{Held}
use Rattle.dz_run.specs.Replaying.{State, running, IsListBefore, bad_line}
use Rattle.dz_run.specs.declared.answering.End.{End}
use Rattle.dz_run.specs.declared.events.Took.{Took}
use Rattle.dz_run.specs.declared.events.Took.TheVariants as took

-- nothing was published and nothing was written
pub record CanStart (publisher : Book) (text : Option Octets) (count : ℕ) (end : Published)
    (view : Viewed) : Type 0 where
  pub list : end.list ≡ []
  pub staged : end.staged ≡ None
  pub own : end.book ≡ publisher
  pub reading : IsAtRest publisher view
  pub held : IfSome text (λ octets. octets ≡ [])
  pub faults : count ≡ 0

-- what a turn did that was taken: its text was written, and the core goes on
pub record Goes (turn : Turn State End) (h k : Held) : Type 0 where
  pub does : DoesTurn turn None (running k.core) h.written k.written
  pub faults : k.faults ≡ h.faults
  pub failed : k.failed ≡ false

-- what a turn did that stopped: a prefix of its text was written, and the list begins that of its state
pub record Stops (turn : Turn State End) (error : TurnError) (h k : Held) : Type 0 where
  pub part : GainsPrefix (turn_text turn) h.written k.written
  pub later : h.faults ≤ k.faults
  pub cause : error ≡ stops.Write → HasRisen h.faults k.faults
  pub list : IsListBefore (running k.core) (turn_state turn)

-- its text was written and the core goes on; or its line is bad, and nothing changes; or it stopped in its text
unfoldable pub IsTaken : Turn State End → ℕ → Held → Result Took TurnError → Held → Type 0
IsTaken turn number h (Ok took.Done) k = Goes turn h k
IsTaken turn number h (Ok took.Bad) k = (turn ≡ bad_line (running h.core) number) × (k ≡ h)
IsTaken turn number h (Err error) k = Stops turn error h k

-- how an event was taken, by the answer of the call that says its line
abbrev pub by_saying : Result (Unit {0}) LogFault → Result Took TurnError
by_saying (Ok done) = Ok took.Done
by_saying (Err fault) = Err stops.Write

-- how an event was taken that makes a job fail
abbrev pub by_failing : Result (Failure × Page) Unmade → Result Took TurnError
by_failing (Ok r) = Ok took.Done
by_failing (Err unmade) = Err stops.Write

-- how an event was taken, by the verdict on its transfer
abbrev pub by_verdict : Verdict → Result Took TurnError
by_verdict OutOfMemory = Err stops.OutOfMemory
by_verdict verdict = Ok took.Done

-- how an event was taken that ends a job
abbrev pub by_settling : Result (Verdict × Page) Unmade → Result Took TurnError
by_settling (Ok r) = by_verdict r.0
by_settling (Err unmade) = Err stops.Write

-- the log could not be written; the job was in flight
abbrev pub IsFault : Unmade → Type 0
IsFault unmades.LogFault = ⊤
IsFault (unmades.NotInFlight absent) = ⊥

-- an answer, or that fault
abbrev pub IsMade : {T : Type 0} → Result T Unmade → Type 0
IsMade (Ok answer) = ⊤
IsMade (Err unmade) = IsFault unmade
