-- Judge: laws of the first zone that is due.
use Rattle.std.specs.Prelude.{◌≡◌, ℕ, ◌<◌, ◌≤◌, ◌↔◌, true, false, List, take, Some, None, slice_get}
use Rattle.std.specs.List.{All, list_any, position}
use Rattle.dz_timer.specs.Timing.{is_due}
use Rattle.dz_timer.specs.Values.{ValuesOf}
use Rattle.dz_timer.specs.Schedule.{is_first}

-- the zone at this place has these values and no job in flight; no zone without one waits for an earlier moment, and
-- none before it for the same moment
pub record IsLeast (zones : List ValuesOf) (place : ℕ) (values : ValuesOf) : Type 0 where
  pub there : slice_get zones place ≡ Some values
  pub idle : values.timing.busy ≡ false
  pub least : All (λ other. other.timing.busy ≡ false → values.timing.next ≤ other.timing.next) zones
  pub before : All (λ other. other.timing.busy ≡ false → values.timing.next < other.timing.next) (take place zones)

-- the first zone is the least in this sense
abbrev pub FirstIsLeast : Type 0
FirstIsLeast = (zones : List ValuesOf) (place : ℕ) → position (is_first zones) zones ≡ Some place
    → (values : ValuesOf) × IsLeast zones place values

-- there is no first zone exactly where each zone has a job in flight
abbrev pub NoneIsIdle : Type 0
NoneIsIdle = (zones : List ValuesOf)
    → (position (is_first zones) zones ≡ None) ↔ All (λ values. values.timing.busy ≡ true) zones

-- some zone is due exactly where the first zone is
abbrev pub FirstIsDue : Type 0
FirstIsDue = (zones : List ValuesOf) (place : ℕ) (values : ValuesOf) (now : ℕ)
    → position (is_first zones) zones ≡ Some place → slice_get zones place ≡ Some values
    → list_any (λ other. is_due other.timing now) zones ≡ is_due values.timing now
