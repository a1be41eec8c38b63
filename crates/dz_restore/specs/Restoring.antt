-- Meaning: a core to which kept versions are given back, each zone in its turn (RFC 9432 section 5).
use Rattle.std.specs.Prelude.{ℕ, zero, suc, ◌+◌, Bool, false, not, ◌&&◌, is_some, nat_lt, List, length, slice_get}
use Rattle.std.specs.Prelude.{Option, Some, None, if◌then◌else◌}
use Rattle.std.specs.Option.{option_map, option_map_or, option_eq}
use Rattle.std.specs.Str.{bytes_eq}
use Rattle.dz_name.specs.Words.{Name, Octets}
use Rattle.dz_name.specs.Name.{same_name}
use Rattle.dz_message.specs.Frame.{stream}
use Rattle.dz_message.specs.Piece.{written}
use Rattle.dz_zone.specs.Version.{Zone}
use Rattle.dz_outward.specs.Stream.{messages_of, is_fit}
use Rattle.dz_store.specs.Kept.{KeptZone}
use Rattle.dz_store.specs.Store.{kept}
use Rattle.dz_history.specs.State.{State, catalog_at, member_at}
use Rattle.dz_history.specs.Places.{Seat, seats}
use Rattle.dz_job.specs.Job.{JobOf}
use Rattle.dz_fleet.specs.declared.due.Due.{Due}
use Rattle.dz_fleet.specs.declared.due.Due.TheVariants as due
use Rattle.dz_fleet.specs.Core.{Core, state_of, due_of, after_due, settled, failed_core}

-- ---- what may be given back
-- where a zone belongs: a member to its catalog under its label there, and a catalog to itself under no label
pub record Home : Type 0 where
  pub catalog : Name
  pub label : Option Octets

-- where a catalog belongs, which has a number, or a member
abbrev pub home_from : State → Name → Option ℕ → Option Home
home_from s zone (Some number) = Some (record { catalog = zone; label = None })
home_from s zone None = option_map (λ m. record { catalog = m.catalog; label = Some m.label }) (member_at s zone)

-- where a zone belongs, if it is a catalog or a member
unfoldable pub home_at : State → Name → Option Home
home_at s zone = home_from s zone (catalog_at s zone)

-- a zone was kept where it belongs
abbrev pub is_home : KeptZone → Home → Bool
is_home k home = same_name k.catalog home.catalog && option_eq bytes_eq k.label home.label

-- a kept version may be given back by a job: it was kept where the job's zone belongs, the zone's catalog has no key,
-- which the job would have, and the version can be sent
unfoldable pub may_return : State → JobOf → KeptZone → Bool
may_return s job k =
    option_map_or (is_home k) (home_at s job.flight.zone) false && (not (is_some job.key) && is_fit k.version)

-- ---- one zone
-- when a zone is handed out: at its kept moment, or at 0
abbrev pub moment_of : Option KeptZone → ℕ
moment_of tale = option_map_or (λ k. k.refreshed) tale 0

-- a version as it is sent with an ID
unfoldable pub sent_with : ℕ → Zone → Octets
sent_with id version = stream (written (messages_of id version))

-- a zone's job ends by its kept version, as by a transfer that ended at the kept moment. Where that may not be given
-- back, and where nothing is kept, it fails at moment 0
abbrev pub ended_with : Core → JobOf → Option KeptZone → Core
ended_with c job None = failed_core c job 0
ended_with c job (Some k) =
    if may_return (state_of c) job k then settled c job (sent_with job.flight.id k.version) k.refreshed
    else failed_core c job 0

-- a zone has its turn: its job is handed out and ends; where no job is due nothing changes
abbrev pub after_turn : Core → Option KeptZone → Due → Core
after_turn c tale (due.Job job) = ended_with (after_due c (due.Job job)) job tale
after_turn c tale (due.Idle quiet) = c
after_turn c tale (due.Full quiet) = c
after_turn c tale due.OutOfMemory = c

-- the zone that is due at its kept moment has its turn
unfoldable pub restore_one : Option KeptZone → Core → Core
restore_one tale c = after_turn c tale (due_of c (moment_of tale))

-- ---- all zones
-- what a store says of the zone at a place: what its list keeps; where the disk failed at a place, nothing from there
-- on
abbrev pub told : Option ℕ → List Octets → ℕ → Name → Option KeptZone
told None list place zone = kept zone list
told (Some stop) list place zone = if nat_lt place stop then kept zone list else None

-- the zone at a place has its turn, if there is one
abbrev pub restore_seat : (Name → Option KeptZone) → Core → Option Seat → Core
restore_seat tells c (Some seat) = restore_one (tells seat.zone) c
restore_seat tells c None = c

-- the zone at this place has its turn
abbrev pub restore_at : (ℕ → Name → Option KeptZone) → ℕ → Core → Core
restore_at tells place c = restore_seat (tells place) c (slice_get (seats (state_of c)) place)

-- the zones at the given number of places from one on have their turns
unfoldable pub restore_from : (ℕ → Name → Option KeptZone) → ℕ → ℕ → Core → Core
restore_from tells first zero c = c
restore_from tells first (suc n) c = restore_at tells (first + n) (restore_from tells first n c)

-- the catalogs have their turns, in the order of the configuration
abbrev pub restore_catalogs : (ℕ → Name → Option KeptZone) → Core → Core
restore_catalogs tells c = restore_from tells 0 (length (state_of c).fold.config) c

-- after them the members that they list have theirs, in canonical order
abbrev pub restored : (ℕ → Name → Option KeptZone) → Core → Core
restored tells c =
    let d = restore_catalogs tells c in
    restore_from tells (length (state_of c).fold.config) (length (state_of d).fold.members) d
