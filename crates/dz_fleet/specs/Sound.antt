-- Meaning: what holds of every core that can come about.
use Rattle.std.specs.Prelude.{⊤, ◌≡◌, ◌⊎◌, ℕ, ◌+◌, ◌-◌, ◌^◌, ◌<◌, ◌≤◌, ◌==◌, ◌&&◌, Bool, true, false, List, [], ◌∷◌}
use Rattle.std.specs.Prelude.{length, slice_get, Some, None}
use Rattle.std.specs.List.{AllByRecursion, list_any}
use mathlib.Core.List.{IsPrefix}
use Rattle.dz_name.specs.Name.{same_name}
use Rattle.dz_timer.specs.Values.{ValuesOf}
use Rattle.dz_history.specs.State.{State, held_at, stands}
use Rattle.dz_history.specs.declared.entry.Entry.{Entry}
use Rattle.dz_history.specs.After.{after}
use Rattle.dz_history.specs.Ended.{ended}
use Rattle.dz_history.specs.Legal.{IsLegal}
use Rattle.dz_history.specs.Places.{Seat, seats}
use Rattle.dz_job.specs.declared.flight.Flight.{Flight}
use Rattle.dz_job.specs.Job.{JobOf, IsJob}
use Rattle.dz_fleet.specs.Core.{Core, state_of, primaries_of}
use Rattle.dz_fleet.specs.Values.{value_at}

-- a job is of this incarnation
abbrev pub is_of : Seat → JobOf → Bool
is_of seat job = same_name job.flight.zone seat.zone && job.flight.incarnation == seat.incarnation

-- the zone of a job, with its incarnation
abbrev pub seat_of : JobOf → Seat
seat_of job = record { zone = job.flight.zone; incarnation = job.flight.incarnation }

-- a job was handed out by this list: at the number of entries that it names, with the version that its zone held then
pub record IsGiven (list : List Entry) (job : JobOf) : Type 0 where
  pub front : List Entry
  pub begins : IsPrefix front list
  pub entries : length front ≡ job.flight.entries
  pub held : job.held ≡ held_at (after front) job.flight.zone

-- a job in flight: its ticket was handed out by this list, its incarnation began by an entry that is there and is
-- current until one ends it, and while it is current the job's version is the one that is held
pub record IsSent (list : List Entry) (tickets : ℕ) (job : JobOf) : Type 0 where
  pub valid : IsJob job
  pub ticket : job.flight.ticket ≤ tickets
  pub given : IsGiven list job
  pub old : job.flight.incarnation < length list
  pub standing : ended list job.flight.zone job.flight.incarnation ≡ None
      → stands (after list) job.flight.zone job.flight.incarnation ≡ true
  pub held : stands (after list) job.flight.zone job.flight.incarnation ≡ true
      → job.held ≡ held_at (after list) job.flight.zone

-- tickets rise, and no two jobs are of one incarnation
unfoldable pub AreApart : List JobOf → Type 0
AreApart [] = ⊤
AreApart (job ∷ jobs) =
    AllByRecursion (λ other. job.flight.ticket < other.flight.ticket) jobs
    × AllByRecursion (λ other. is_of (seat_of job) other ≡ false) jobs
    × AreApart jobs

-- what a zone waits for: it is marked to have a job exactly where one of its incarnation is in flight, and the primary
-- that it asks is one that it has
pub record IsWaiting (s : State) (jobs : List JobOf) (seat : Seat) (v : ValuesOf) : Type 0 where
  pub busy : v.timing.busy ≡ list_any (is_of seat) jobs
  pub turn : v.turn < primaries_of s seat.zone

-- the list is legal and has begun; there are values for each place; there are at most 16 jobs, and tickets for all
-- entries
pub record IsSound (c : Core) : Type 0 where
  pub legal : IsLegal c.list
  pub begun : 0 < length c.list
  pub sized : length c.values ≡ length (seats (state_of c))
  pub waiting : (place : ℕ) (seat : Seat) → slice_get (seats (state_of c)) place ≡ Some seat
      → IsWaiting (state_of c) c.flight seat (value_at c.values place)
  pub sent : AllByRecursion (IsSent c.list c.tickets) c.flight
  pub apart : AreApart c.flight
  pub few : length c.flight ≤ 16
  pub drawn : length c.list + length c.flight ≤ c.tickets + 1
  pub most : c.tickets ≤ 2 ^ 64 - 2

-- a job in flight asks for the same
unfoldable pub IsAmong : Flight → List JobOf → Type 0
IsAmong flight [] = ⊥
IsAmong flight (job ∷ jobs) = (job.flight ≡ flight) ⊎ IsAmong flight jobs

-- a job is this core's: one in flight asks for the same, this list handed it out, and while its incarnation is current
-- its version is the one that is held
pub record IsFlying (c : Core) (job : JobOf) : Type 0 where
  pub there : IsAmong job.flight c.flight
  pub given : IsGiven c.list job
  pub held : stands (state_of c) job.flight.zone job.flight.incarnation ≡ true
      → job.held ≡ held_at (state_of c) job.flight.zone
