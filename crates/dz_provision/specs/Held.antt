-- Answer: what is under the provisioner's lock, and what each call makes of it.
use Rattle.std.specs.Prelude.{◌≡◌, ◌≤◌, ◌+◌, ◌⊎◌, ℕ, Bool, true, false, List, Option, Result, Ok, Err, IfOk}
use Rattle.dz_io.specs.Counts.{HasRisen}
use Rattle.dz_io.specs.Device.{Gains, GainsPrefix}
use Rattle.dz_io.specs.declared.peer.Peer.{Peer}
use Rattle.dz_name.specs.Words.{Name, Octets}
use Rattle.dz_notify.specs.declared.notify.Heard.{Heard}
use Rattle.dz_job.specs.Job.{JobOf}
use Rattle.dz_job.specs.declared.verdict.Verdict.{Verdict}
use Rattle.dz_job.specs.declared.verdict.Verdict.TheVariants.{OutOfMemory}
use Rattle.dz_job.specs.declared.verdict.Failure.{Failure}
use Rattle.dz_job.specs.declared.verdict.Failure.TheVariants as failures
use Rattle.dz_history.specs.declared.entry.Entry.{Entry}
use Rattle.dz_fleet.specs.declared.due.Due.{Due}
use Rattle.dz_fleet.specs.Core.{Core, failed_core, failure_of, ended_of, heard_of, after_notify}
use Rattle.dz_fleet.specs.Answers.{IsDue, IsOffered}
use Rattle.dz_fleet.specs.Sound.{IsFlying}
use Rattle.dz_fleet.specs.Absence.{AbsentOf, absent_of}
use Rattle.dz_desk.specs.Seen.{Book, Page}
use Rattle.dz_desk.specs.declared.ear.Hearing.{Hearing}
use Rattle.dz_desk.specs.declared.ear.Hearing.TheVariants as hearing
use Rattle.dz_report.specs.Lines.{failure_line, notify_line, verdict_lines}
use Rattle.dz_provision.specs.Log.{due_lines, settled_lines}
use Rattle.dz_provision.specs.declared.provisioner.LogFault.{LogFault}
use Rattle.dz_provision.specs.declared.provisioner.Unmade.{Unmade}
use Rattle.dz_provision.specs.declared.provisioner.Unmade.TheVariants as unmade

-- the core, what was written to the output, where it tells, the count of its faults, whether a write has failed, and
-- how many lines of want of memory were written
pub record Held : Type 0 where
  pub core : Core
  pub written : Option Octets
  pub faults : ℕ
  pub failed : Bool
  pub starved : ℕ

-- an event made this core, and its lines come after what was written
pub record Logs (h : Held) (next : Core) (lines : Octets) (k : Held) : Type 0 where
  pub core : k.core ≡ next
  pub written : Gains lines h.written k.written
  pub faults : k.faults ≡ h.faults
  pub before : h.failed ≡ false
  pub failed : k.failed ≡ false
  pub starved : k.starved ≡ h.starved

-- an event made this core, and the write of its lines was the first to fail, after a prefix of them
pub record Breaks (h : Held) (next : Core) (lines : Octets) (k : Held) : Type 0 where
  pub core : k.core ≡ next
  pub written : GainsPrefix lines h.written k.written
  pub later : h.faults ≤ k.faults
  pub faults : HasRisen h.faults k.faults
  pub before : h.failed ≡ false
  pub failed : k.failed ≡ true
  pub starved : k.starved ≡ h.starved

-- a write had failed, and nothing changes
pub record Stays (h k : Held) : Type 0 where
  pub same : k ≡ h
  pub failed : h.failed ≡ true

-- a note of the list, where there is one
abbrev pub Notes : {T E : Type 0} → Book → List Entry → Result (T × Page) E → Type 0
Notes publisher list result = IfOk result (λ r. (r.1.list ≡ list) × (r.1.book ≡ publisher))

-- ---- a job is asked for
unfoldable pub IsHandedOut : Held → ℕ → Result Due LogFault → Held → Type 0
IsHandedOut h now (Ok answer) k = IsDue h.core now answer k.core × Logs h k.core (due_lines answer) k
IsHandedOut h now (Err fault) k =
    Stays h k ⊎ ((answer : Due) × IsDue h.core now answer k.core × Breaks h k.core (due_lines answer) k)

-- ---- a job ends
-- a job that isn't the core's makes no event
pub record IsNone (h : Held) (job : JobOf) (absent : AbsentOf) (k : Held) : Type 0 where
  pub same : k ≡ h
  pub before : h.failed ≡ false
  pub why : absent ≡ absent_of h.core job
  pub none : IsFlying h.core job → ⊥

-- by these octets
unfoldable pub IsSettled : Held → JobOf → Octets → ℕ → Result (Verdict × Page) Unmade → Held → Type 0
IsSettled h job octets now (Ok r) k =
    IsFlying h.core job
    × (IsOffered h.core job octets now r.0 k.core × Logs h k.core (settled_lines job.flight.zone r.0) k)
IsSettled h job octets now (Err (unmade.NotInFlight absent)) k = IsNone h job absent k
IsSettled h job octets now (Err unmade.LogFault) k =
    Stays h k ⊎ ((verdict : Verdict) × IsFlying h.core job
    × (IsOffered h.core job octets now verdict k.core × Breaks h k.core (settled_lines job.flight.zone verdict) k))

-- as one that failed
unfoldable pub IsFailed : Held → JobOf → ℕ → Result (Failure × Page) Unmade → Held → Type 0
IsFailed h job now (Ok r) k =
    IsFlying h.core job × ((r.0 ≡ failure_of (ended_of h.core job))
    × Logs h (failed_core h.core job now) (failure_line job.flight.zone r.0) k)
IsFailed h job now (Err (unmade.NotInFlight absent)) k = IsNone h job absent k
IsFailed h job now (Err unmade.LogFault) k =
    Stays h k ⊎ (IsFlying h.core job
    × Breaks h (failed_core h.core job now) (failure_line job.flight.zone (failure_of (ended_of h.core job))) k)

-- ---- a NOTIFY is heard
unfoldable pub IsHeard : Held → Peer → Name → Result (Heard × Page) LogFault → Held → Type 0
IsHeard h peer zone (Ok r) k =
    (r.0 ≡ heard_of h.core peer zone) × Logs h (after_notify h.core zone r.0) (notify_line zone r.0) k
IsHeard h peer zone (Err fault) k =
    let how = heard_of h.core peer zone in
    Stays h k ⊎ Breaks h (after_notify h.core zone how) (notify_line zone how) k

-- ---- a line is said
unfoldable pub IsSaid : Held → Octets → Result (Unit {0}) LogFault → Held → Type 0
IsSaid h line (Ok done) k = Logs h h.core line k
IsSaid h line (Err fault) k = Stays h k ⊎ Breaks h h.core line k

-- want of memory is said for the transfer of a zone, and counts
pub record Starves (h : Held) (zone : Name) (k : Held) : Type 0 where
  pub core : k.core ≡ h.core
  pub written : Gains (verdict_lines zone OutOfMemory) h.written k.written
  pub faults : k.faults ≡ h.faults
  pub before : h.failed ≡ false
  pub failed : k.failed ≡ false
  pub starved : k.starved ≡ h.starved + 1

-- ---- what is answered beside a reading
-- by these octets; of want of memory the line is said that names the job's zone
unfoldable pub IsSettledAloud : Held → JobOf → Octets → ℕ → Verdict → Held → Type 0
IsSettledAloud h job octets now OutOfMemory k =
    (between : Held) × (note : Page) × IsSettled h job octets now (Ok (OutOfMemory, note)) between
    × Starves between job.flight.zone k
IsSettledAloud h job octets now verdict k = (note : Page) × IsSettled h job octets now (Ok (verdict, note)) k

unfoldable pub IsFailedAloud : Held → JobOf → ℕ → Failure → Held → Type 0
IsFailedAloud h job now failure k = (note : Page) × IsFailed h job now (Ok (failure, note)) k

-- for want of memory: after its own line the line is said that names the job's zone, but where it is stale
unfoldable pub IsStarvedAloud : Held → JobOf → ℕ → Failure → Held → Type 0
IsStarvedAloud h job now failures.Failed k =
    (between : Held) × IsFailedAloud h job now failures.Failed between × Starves between job.flight.zone k
IsStarvedAloud h job now (failures.Stale n) k = IsFailedAloud h job now (failures.Stale n) k

-- a NOTIFY
unfoldable pub IsHeardAloud : {W : Type 0} → Held → Peer → Name → Hearing W → Held → Type 0
IsHeardAloud h peer zone (hearing.Heard how witness) k = (note : Page) × IsHeard h peer zone (Ok (how, note)) k
IsHeardAloud h peer zone hearing.LogFault k = (fault : LogFault) × IsHeard h peer zone (Err fault) k
