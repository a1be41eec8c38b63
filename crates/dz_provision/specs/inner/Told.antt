-- Inner: zones that had their turns, and what a store told of them.
use Rattle.std.specs.Prelude.{◌≡◌, ◌⊎◌, ℕ, ◌+◌, ◌≤◌, Bool, true, false, is_some, List, slice_get, Option, None}
use Rattle.std.specs.Prelude.{IfSome}
use Rattle.dz_name.specs.Words.{Octets}
use Rattle.dz_history.specs.Places.{seats}
use Rattle.dz_store.specs.Store.{kept}
use Rattle.dz_fleet.specs.Core.{Core, state_of}
use Rattle.dz_restore.specs.Restoring.{told, restore_seat, restore_from}

-- the store has stopped before this place, or it tells still
pub record HasStopped (has_failed : Bool) (stop : Option ℕ) (place : ℕ) : Type 0 where
  pub failed : has_failed ≡ is_some stop
  pub before : IfSome stop (λ n. n ≤ place)

-- where it stops in the end, as of a place: where it had stopped, or from there on
abbrev pub StopsLater : Option ℕ → Option ℕ → ℕ → Type 0
StopsLater stop later place = (later ≡ stop) ⊎ ((stop ≡ None) × IfSome later (λ n. place ≤ n))

-- the zone at a place had its turn: the store told of it, or the disk had failed
abbrev pub HadTurn : List Octets → Bool → Bool → ℕ → Core → Core → Type 0
HadTurn list before after place c d =
    ((before ≡ false)
    × ((after ≡ false) × (d ≡ restore_seat (λ zone. kept zone list) c (slice_get (seats (state_of c)) place))))
    ⊎ ((after ≡ true) × (d ≡ restore_seat (λ zone. None) c (slice_get (seats (state_of c)) place)))

-- the zones at so many places had theirs
pub record HadTurns (list : List Octets) (has_failed : Bool) (stop : Option ℕ) (first count : ℕ)
    (c d : Core) : Type 0 where
  pub later : Option ℕ
  pub stopped : HasStopped has_failed later (first + count)
  pub stops : StopsLater stop later first
  pub core : d ≡ restore_from (told later list) first count c
