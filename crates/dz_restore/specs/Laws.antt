-- Judge: which zones hold their kept versions after all had their turns.
use Rattle.std.specs.Prelude.{◌≡◌, ◌≢◌, ◌↔◌, ℕ, ◌<◌, ◌-◌, ◌^◌, true, List, length, Option, Some, None}
use Rattle.dz_name.specs.Words.{Name}
use Rattle.dz_zone.specs.Version.{Zone}
use Rattle.dz_take.specs.Outcome.{outcome}
use Rattle.dz_take.specs.Transfer.{new}
use Rattle.dz_outward.specs.Laws.{transfer_of}
use Rattle.dz_table.specs.Slot.{SlotOf}
use Rattle.dz_table.specs.Table.{slot_of}
use Rattle.dz_settings.specs.declared.config.CatalogSettings.{CatalogSettings}
use Rattle.dz_settings.specs.Config.{IsAllowed}
use Rattle.dz_history.specs.State.{State, catalog_at, held_at, key_at, policy_at}
use Rattle.dz_history.specs.Places.{seats}
use Rattle.dz_store.specs.Kept.{KeptZone, CanBeKept}
use Rattle.dz_fleet.specs.Core.{state_of, opened_core, is_accepted}
use Rattle.dz_restore.specs.Restoring.{home_at, sent_with, restore_catalogs, restored}

-- what is kept of a zone is of that zone, and can be kept
abbrev pub AreKept : (Name → Option KeptZone) → Type 0
AreKept keeps = (zone : Name) (k : KeptZone) → keeps zone ≡ Some k → (k.zone ≡ zone) × CanBeKept k

-- a kept version returns to a zone: it was kept where the zone belongs, the zone's catalog has no key, and the kept
-- stream, with any ID, is the new version, which the policy accepts by its ZONEMD records
pub record Returns (s : State) (zone : Name) (k : KeptZone) : Type 0 where
  pub home : home_at s zone ≡ Some (record { catalog = k.catalog; label = k.label })
  pub key : key_at s zone ≡ None
  pub new : (id : ℕ) → id < 2 ^ 16 → outcome (transfer_of id k.version) (sent_with id k.version) ≡ new k.version
  pub accepted : is_accepted (policy_at s zone) k.version ≡ true

-- a zone holds a version exactly where that is kept of it and returns, and else it holds none
abbrev pub HoldsKept : State → (Name → Option KeptZone) → Type 0
HoldsKept s keeps = (zone : Name) (version : Zone) → (held_at s zone ≡ Some version)
    ↔ ((k : KeptZone) × (keeps zone ≡ Some k) × Returns s zone k × (version ≡ k.version))

-- a member that holds a version has the moment at which its kept one was refreshed
abbrev pub HasKeptMoments : State → (Name → Option KeptZone) → Type 0
HasKeptMoments s keeps = (zone : Name) (slot : SlotOf) (version : Zone) → catalog_at s zone ≡ None
    → slot_of zone s.table ≡ Some slot → slot.version ≡ Some version
    → (k : KeptZone) × (keeps zone ≡ Some k) × (slot.refreshed ≡ k.refreshed)

-- both hold of a configuration that is allowed, while there are tickets for the catalogs and for the members that they
-- list
abbrev pub RestoresExactly : Type 0
RestoresExactly = (config : List CatalogSettings) (keeps : Name → Option KeptZone) → IsAllowed config → AreKept keeps
    → length (seats (state_of (restore_catalogs (λ place. keeps) (opened_core config)))) < 2 ^ 64 - 2
    → let s = state_of (restored (λ place. keeps) (opened_core config)) in HoldsKept s keeps × HasKeptMoments s keeps
