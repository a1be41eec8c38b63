-- Meaning: zones that are handed out in turn, each once, while kept versions are given back.
use Rattle.std.specs.Prelude.{◌≡◌, ◌+◌, ◌-◌, ◌^◌, ◌<◌, ◌≤◌, ℕ, false, List, [], ◌∷◌, ◌++◌, length, position, slice_set}
use Rattle.std.specs.Prelude.{Option, Some, None}
use Rattle.std.specs.List.{AllByRecursion}
use Rattle.dz_member.specs.Membership.{MemberOf}
use Rattle.dz_history.specs.State.{State, catalog_at}
use Rattle.dz_history.specs.Places.{place_at}
use Rattle.dz_fleet.specs.Values.{relisted_values}
use Rattle.dz_fleet.specs.Core.{Core, state_of, due_of, job_at, after_due, ended_of, failed_core, after_refusal}
use Rattle.dz_fleet.specs.Core.{entry_for, after_success}
use Rattle.dz_name.specs.Words.{Octets}
use Rattle.dz_history.specs.After.{step}
use Rattle.dz_history.specs.declared.aftermath.Aftermath.{Aftermath}
use Rattle.dz_history.specs.declared.aftermath.Aftermath.TheVariants.{Member, Broken, Changes}
use Rattle.dz_fleet.specs.declared.due.Due.TheVariants as due
use Rattle.dz_timer.specs.Values.{ValuesOf, fresh, departed, failed, refused, succeeded}
use Rattle.dz_timer.specs.Schedule.{is_first}

-- a zone has had its turn: it waits, and not for moment 0
abbrev pub Waits : ValuesOf → Type 0
Waits v = (v.timing.busy ≡ false) × (0 < v.timing.next)

-- the first `count` have had their turn, and the others begin
pub record IsTurn (values : List ValuesOf) (count : ℕ) : Type 0 where
  pub done : List ValuesOf
  pub rest : List ValuesOf
  pub are : values ≡ done ++ rest
  pub many : length done ≡ count
  pub waits : AllByRecursion Waits done
  pub begin : AllByRecursion (λ v. v ≡ fresh) rest

-- the first zone that begins is the one whose job is handed out next
abbrev pub FirstInTurn : Type 0
FirstInTurn = (values : List ValuesOf) (count : ℕ) → IsTurn values count → count < length values
    → position (is_first values) values ≡ Some count

-- once a zone waits, the next one has its turn
abbrev pub NextInTurn : Type 0
NextInTurn = (values : List ValuesOf) (count : ℕ) (v : ValuesOf) → IsTurn values count → count < length values
    → Waits v → IsTurn (slice_set values count v) (count + 1)

-- a zone waits after its job, whatever comes of it
abbrev pub EachWaits : Type 0
EachWaits = (now refresh primaries : ℕ) (retry : Option ℕ) → Waits (failed (departed fresh) now retry primaries)
    × Waits (refused (departed fresh) now retry primaries) × Waits (succeeded (departed fresh) now refresh)

-- the zone whose turn it is has a job in flight
pub record IsBusyTurn (values : List ValuesOf) (count : ℕ) : Type 0 where
  pub done : List ValuesOf
  pub rest : List ValuesOf
  pub are : values ≡ done ++ departed fresh ∷ rest
  pub many : length done ≡ count
  pub waits : AllByRecursion Waits done
  pub begin : AllByRecursion (λ v. v ≡ fresh) rest

-- the zone whose job is handed out has a job in flight
abbrev pub Departs : Type 0
Departs = (values : List ValuesOf) (count : ℕ) → IsTurn values count → count < length values
    → IsBusyTurn (slice_set values count (departed fresh)) count

-- once that zone waits, the next one has its turn
abbrev pub Lands : Type 0
Lands = (values : List ValuesOf) (count : ℕ) (v : ValuesOf) → IsBusyTurn values count → Waits v
    → IsTurn (slice_set values count v) (count + 1)

-- a listing that a catalog's new version brings, while that catalog has its turn: its members begin, whatever they
-- were
abbrev pub ListingKeepsTurns : Type 0
ListingKeepsTurns = (s : State) (values : List ValuesOf) (members : List MemberOf) (count : ℕ)
    → IsBusyTurn values count → count < length s.fold.config → length s.fold.config ≤ length values
    → AllByRecursion (λ m. catalog_at s m.zone ≡ None) members → IsBusyTurn (relisted_values s values members) count

-- ---- the core
-- `count` zones have had their turn, no job is in flight, and there are tickets
pub record IsRestoring (c : Core) (count : ℕ) : Type 0 where
  pub turn : IsTurn c.values count
  pub idle : c.flight ≡ []
  pub tickets : c.tickets < 2 ^ 64 - 2

-- at every moment the job of the next zone is handed out
abbrev pub DueInTurn : Type 0
DueInTurn = (c : Core) (count now : ℕ) → IsRestoring c count → count < length c.values
    → due_of c now ≡ due.Job (job_at c now count)

-- a job that fails passes the turn on
abbrev pub FailsInTurn : Type 0
FailsInTurn = (c : Core) (count moment now : ℕ) → IsRestoring c count → count < length c.values
    → let job = job_at c moment count in
    place_at (state_of c) job.flight.zone ≡ Some count → ended_of c job ≡ None → c.tickets + 1 < 2 ^ 64 - 2
    → IsRestoring (failed_core (after_due c (due.Job job)) job now) (count + 1)

-- a job whose transfer is refused passes the turn on
abbrev pub RefusedInTurn : Type 0
RefusedInTurn = (c : Core) (count moment now : ℕ) → IsRestoring c count → count < length c.values
    → let job = job_at c moment count in
    place_at (state_of c) job.flight.zone ≡ Some count → c.tickets + 1 < 2 ^ 64 - 2
    → IsRestoring (after_refusal (after_due c (due.Job job)) job now) (count + 1)

-- what a listing needs: it is a catalog's turn, each catalog has values, and no member is a catalog
abbrev pub MayList : State → List ValuesOf → List MemberOf → ℕ → Aftermath → Type 0
MayList s values members count (Changes changes) = (count < length s.fold.config)
    × (length s.fold.config ≤ length values) × AllByRecursion (λ m. catalog_at s m.zone ≡ None) members
MayList s values members count Member = Unit {0}
MayList s values members count (Broken reason) = Unit {0}

-- a job whose transfer is taken passes the turn on
abbrev pub SucceedsInTurn : Type 0
SucceedsInTurn = (c : Core) (count moment : ℕ) (octets : Octets) (aftermath : Aftermath) → IsRestoring c count
    → count < length c.values
    → let job = job_at c moment count in
    let next = after_due c (due.Job job) in
    let t = step (state_of c) (entry_for job octets) in
    place_at t job.flight.zone ≡ Some count → MayList (state_of c) next.values t.fold.members count aftermath
    → c.tickets + 1 < 2 ^ 64 - 2 → IsRestoring (after_success next job octets aftermath) (count + 1)
