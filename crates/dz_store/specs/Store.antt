-- Meaning: which record of a list counts for a zone.
use Rattle.std.specs.Prelude.{◌≡◌, ◌⊎◌, ℕ, Bool, true, false, is_some, if◌then◌else◌, List, Option, Some, None}
use Rattle.std.specs.Prelude.{option_and_then}
use Rattle.std.specs.List.{fold}
use Rattle.std.specs.Option.{option_map_or}
use Rattle.dz_name.specs.Words.{Name, Octets}
use Rattle.dz_name.specs.Name.{same_name}
use Rattle.dz_io.specs.Counts.{HasRisen}
use Rattle.dz_disk.specs.RecordLog.{LogOf}
use Rattle.dz_store.specs.Kept.{KeptZone}
use Rattle.dz_store.specs.Payload.{kept_of, zone_of}

-- a payload is of a zone
unfoldable pub is_of : Name → Octets → Bool
is_of zone payload = option_map_or (λ z. same_name z zone) (zone_of payload) false

-- a payload is of a kept zone
unfoldable pub is_kept : Octets → Bool
is_kept payload = is_some (kept_of payload)

-- what counts for a zone after one more payload: that payload where it keeps the zone, none where it forgets the zone,
-- and otherwise what counted before
abbrev pub step : Name → Option Octets → Octets → Option Octets
step zone held payload = if is_of zone payload then (if is_kept payload then Some payload else None) else held

-- the payload that counts for a zone: the last of it, or none where that is of a forgotten zone
abbrev pub counting : Name → List Octets → Option Octets
counting zone list = fold (step zone) None list

-- what a list keeps of a zone
abbrev pub kept : Name → List Octets → Option KeptZone
kept zone list = option_and_then kept_of (counting zone list)

-- a store as contracts see it: its disk, how many octets the records take, and whether a call of the disk failed
pub record StoreOf (D : Type 0) : Type 0 where
  pub disk : D
  pub end : ℕ
  pub has_failed : Bool

-- the store whose records these are
abbrev pub store_of : {D I : Type 0} → LogOf D I → StoreOf D
store_of log = record { disk = log.disk; end = log.end; has_failed = log.has_failed }

-- a call of the disk failed, in this call or in an earlier one
abbrev pub HasFailed : {D : Type 0} → (D → ℕ) → StoreOf D → StoreOf D → Type 0
HasFailed faults old new =
    (new.has_failed ≡ true) × ((old.has_failed ≡ true) ⊎ HasRisen (faults old.disk) (faults new.disk))

-- each zone that one list keeps another one keeps, and no other
abbrev pub KeepsSame : List Octets → List Octets → Type 0
KeepsSame list other = (zone : Name) → kept zone other ≡ kept zone list
