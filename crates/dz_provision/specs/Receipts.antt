-- Answer: what calls under the lock answer, by the list that the lock has and that the reading has then seen.
use Rattle.std.specs.Prelude.{⊤, ◌≡◌, ◌≤◌, ◌<◌, ◌⊎◌, ℕ, ◌-◌, ◌^◌, ◌%◌, Bool, true, List, [], length, take, slice_get}
use Rattle.std.specs.Prelude.{Some, None, IfSome, Result, Ok, Err}
use mathlib.Core.List.{IsPrefix}
use Rattle.dz_name.specs.Words.{Name, Octets}
use Rattle.dz_io.specs.declared.peer.Peer.{Peer}
use Rattle.dz_history.specs.declared.entry.Entry.{Entry}
use Rattle.dz_history.specs.State.{State, held_at, key_at, primaries_at, stands}
use Rattle.dz_history.specs.After.{after}
use Rattle.dz_history.specs.Ended.{ended}
use Rattle.dz_job.specs.Job.{JobOf}
use Rattle.dz_job.specs.declared.verdict.Verdict.{Verdict}
use Rattle.dz_job.specs.declared.verdict.Verdict.TheVariants.{Published, Confirmed, Refused, PolicyRefused, Stale}
use Rattle.dz_job.specs.declared.verdict.Verdict.TheVariants.{OutOfMemory}
use Rattle.dz_job.specs.declared.verdict.Failure.{Failure}
use Rattle.dz_job.specs.declared.verdict.Failure.TheVariants as failures
use Rattle.dz_fleet.specs.declared.due.Due.{Due}
use Rattle.dz_fleet.specs.declared.due.Due.TheVariants as due
use Rattle.dz_fleet.specs.Quiet.{QuietOf}
use Rattle.dz_fleet.specs.Core.{Core, ask_of, entry_for, verdict_of}
use Rattle.dz_provision.specs.declared.provisioner.LogFault.{LogFault}
use Rattle.dz_provision.specs.declared.provisioner.Unmade.{Unmade}
use Rattle.dz_provision.specs.declared.provisioner.Unmade.TheVariants as unmade

-- a core of this list, without jobs
abbrev pub core_of : List Entry → Core
core_of list = record { list = list; tickets = 0; flight = []; values = [] }

-- the verdict that a list of taken transfers gives of a job's octets
unfoldable pub verdict_after : List Entry → JobOf → Octets → Verdict
verdict_after list job octets = verdict_of (core_of list) job octets

-- one of the primaries of a zone
unfoldable pub HasPrimary : State → Name → Peer → Type 0
HasPrimary s zone peer = (peers : List Peer) × (n : ℕ) × (primaries_at s zone ≡ Some peers)
    × (slice_get peers n ≡ Some peer)

-- a count of entries, not below a place and not past a list
abbrev pub IsBetween : ℕ → ℕ → List Entry → Type 0
IsBetween from count list = (from ≤ count) × (count ≤ length list)

-- ---- a job is asked for
-- it tells of this list, at this moment
abbrev pub IsQuietAt : QuietOf → List Entry → ℕ → Type 0
IsQuietAt q list now = (q.count ≡ length list) × (q.moment ≡ now)

-- a job is of an incarnation that is current there, with the version that is held of its zone and its catalog's key,
-- and names the number of entries. It asks one of the zone's primaries, for the whole zone where no version is held,
-- and the query's ID is that of its ticket
pub record IsDueAt (job : JobOf) (list : List Entry) : Type 0 where
  pub begun : stands (after list) job.flight.zone job.flight.incarnation ≡ true
  pub unended : ended list job.flight.zone job.flight.incarnation ≡ None
  pub held : job.held ≡ held_at (after list) job.flight.zone
  pub key : job.key ≡ key_at (after list) job.flight.zone
  pub primary : HasPrimary (after list) job.flight.zone job.flight.primary
  pub ask : (whole : Bool) × (job.flight.ask ≡ ask_of job.held whole)
  pub id : job.flight.id ≡ job.flight.ticket % 2 ^ 16
  pub entries : job.flight.entries ≡ length list

-- it was so after a beginning of the list that isn't shorter than a place
unfoldable pub WasDue : JobOf → ℕ → List Entry → Type 0
WasDue job from list = (before : List Entry) × (from ≤ length before) × IsPrefix before list × IsDueAt job before

-- such a job, of the moment. There is none as no zone is due, or as 16 jobs are in flight or no ticket is left
abbrev pub IsHandedAt : Result Due LogFault → List Entry → ℕ → Type 0
IsHandedAt (Ok (due.Job job)) list now = IsDueAt job list × (job.flight.moment ≡ now)
IsHandedAt (Ok (due.Idle q)) list now =
    IsQuietAt q list now × ((q.in_flight < 16) × IfSome q.earliest (λ earliest. now < earliest))
IsHandedAt (Ok (due.Full q)) list now = IsQuietAt q list now × ((q.in_flight ≡ 16) ⊎ (q.drawn ≡ 2 ^ 64 - 2))
IsHandedAt (Ok due.OutOfMemory) list now = ⊤
IsHandedAt (Err fault) list now = ⊤

-- ---- a job ends
-- its transfer is entry n, which is not below a place, and the verdict is that of the entries before it
pub record IsJoined (v : Verdict) (n : ℕ) (job : JobOf) (octets : Octets) (from : ℕ) (list : List Entry) : Type 0 where
  pub late : from ≤ n
  pub entry : slice_get list n ≡ Some (entry_for job octets)
  pub verdict : v ≡ verdict_after (take n list) job octets

-- with these octets; what isn't taken is judged by all entries
abbrev pub IsSettledAt : Result Verdict Unmade → JobOf → Octets → ℕ → List Entry → Type 0
IsSettledAt (Ok (Published n serial aftermath)) job octets from list =
    IsJoined (Published n serial aftermath) n job octets from list
IsSettledAt (Ok (Confirmed n serial)) job octets from list = IsJoined (Confirmed n serial) n job octets from list
IsSettledAt (Ok (Refused fault)) job octets from list = Refused fault ≡ verdict_after list job octets
IsSettledAt (Ok (PolicyRefused standing)) job octets from list = PolicyRefused standing ≡ verdict_after list job octets
IsSettledAt (Ok (Stale n)) job octets from list = Stale n ≡ verdict_after list job octets
IsSettledAt (Ok OutOfMemory) job octets from list = ⊤
IsSettledAt (Err (unmade.NotInFlight absent)) job octets from list = IsBetween from absent.count list
IsSettledAt (Err unmade.LogFault) job octets from list = ⊤

-- as one that failed
abbrev pub IsFailedAt : Result Failure Unmade → JobOf → ℕ → List Entry → Type 0
IsFailedAt (Ok (failures.Stale n)) job from list = ended list job.flight.zone job.flight.incarnation ≡ Some n
IsFailedAt (Ok failures.Failed) job from list = ended list job.flight.zone job.flight.incarnation ≡ None
IsFailedAt (Err (unmade.NotInFlight absent)) job from list = IsBetween from absent.count list
IsFailedAt (Err unmade.LogFault) job from list = ⊤
