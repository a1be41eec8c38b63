-- Inner: what a fleet keeps.
use Rattle.std.specs.Prelude.{⊤, ◌≡◌, ℕ, List, map}
use Rattle.std.specs.List.{AllByRecursion}
use Rattle.dz_timer.specs.Values.{ValuesOf}
use Rattle.dz_history.specs.declared.entry.Entry.{Entry}
use Rattle.dz_history.specs.declared.entry.Entry.TheVariants.{Setup, Transfer}
use Rattle.dz_history.specs.State.{State, IsState}
use Rattle.dz_history.specs.After.{after}
use Rattle.dz_history.specs.Places.{IsApart, IsPlacedIn}
use Rattle.dz_fleet.specs.declared.flight.Flying.{Flying}
use Rattle.dz_fleet.specs.Core.{Core}
use Rattle.dz_fleet.specs.Sound.{IsSound}
use Rattle.dz_fleet.specs.inner.Flying.{job_in, IsMarked}

-- the core of which these parts are kept
abbrev pub core_in : List Entry → ℕ → List Flying → List ValuesOf → Core
core_in list tickets flying values =
    record { list = list; tickets = tickets; flight = map job_in flying; values = values }

-- the holdings are those after the list, which is that of a sound core; no member is a catalog, and each is a
-- configured one's; and each job in flight has the position of the entry that ended its incarnation
pub record IsKept (holdings : State) (list : List Entry) (tickets : ℕ) (flying : List Flying)
    (values : List ValuesOf) : Type 0 where
  pub after : holdings ≡ after list
  pub state : IsState holdings
  pub sound : IsSound (core_in list tickets flying values)
  pub apart : IsApart holdings
  pub placed : IsPlacedIn holdings
  pub marked : AllByRecursion (IsMarked list) flying

-- the first entry of a list
abbrev pub IsSetup : Entry → Type 0
IsSetup (Setup config) = ⊤
IsSetup (Transfer taken) = ⊥
