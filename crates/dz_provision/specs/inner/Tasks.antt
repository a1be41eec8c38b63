-- Inner: tasks of a store that were done.
use Rattle.std.specs.Prelude.{◌≡◌, false, ℕ, List, ◌++◌, map, Option, Some}
use Rattle.dz_name.specs.Words.{Octets}
use Rattle.dz_disk.specs.Disk.{Leaves}
use Rattle.dz_disk.specs.RecordLog.{records}
use Rattle.dz_disk.specs.Several.{IsLeftAmong, JoinInOrder}
use Rattle.dz_store.specs.Kept.{KeptZone}
use Rattle.dz_store.specs.Payload.{reads}
use Rattle.dz_store.specs.Store.{StoreOf}
use Rattle.dz_provision.specs.declared.keep.Holding.{Holding}
use Rattle.dz_provision.specs.Keeping.{Task, record_of}

-- all of them were done
pub record AreDone {D : Type 0} (file : D → Option Octets) (faults : D → ℕ) (old new : StoreOf D)
    (all : List Task) : Type 0 where
  pub joined : JoinInOrder reads (file old.disk) (file new.disk) (map record_of all)
  pub able : new.has_failed ≡ old.has_failed
  pub same : faults new.disk ≡ faults old.disk

-- a crash at any moment leaves the list with the records of the first of them, and perhaps one that is joining
abbrev pub LeavesTasks : {D : Type 0} → (D → Option Octets) → (D → ℕ) → (D → ℕ → Octets → Type 0) → StoreOf D
    → StoreOf D → List Task → Type 0
LeavesTasks file clock left_from old new all =
    old.has_failed ≡ false → (f : Octets) → file old.disk ≡ Some f
    → Leaves clock left_from old.disk new.disk (IsLeftAmong (records reads f) (map record_of all) f)

-- all of them were done, and a crash of later ones leaves what one of all may leave
pub record ArePassed {D : Type 0} (file : D → Option Octets) (faults clock : D → ℕ)
    (left_from : D → ℕ → Octets → Type 0) (old new : StoreOf D) (all : List Task) : Type 0 where
  pub done : AreDone file faults old new all
  pub left : (later : StoreOf D) (more : List Task) → LeavesTasks file clock left_from new later more
      → LeavesTasks file clock left_from old later (all ++ more)

-- the zone that a holding is kept as
abbrev pub kept_as : Holding → KeptZone
kept_as h = record {
  zone = h.zone;
  catalog = h.catalog;
  label = h.label;
  refreshed = h.refreshed;
  version = h.version.now.value;
}
