-- Meaning: how the states of `replay` are kept.
use Rattle.std.specs.Prelude.{⊤, ◌<◌, ◌^◌, ◌≡◌, ◌⊎◌, Bool, false, List, [], Option, Some, None}
use Rattle.std.specs.Prelude.{if◌then◌else◌}
use Rattle.dz_settings.specs.Config.{is_allowed, IsAllowed}
use Rattle.dz_settings.specs.declared.config.CatalogSettings.{CatalogSettings}
use Rattle.dz_script.specs.declared.line.Line.{Line}
use Rattle.dz_script.specs.declared.line.Line.TheVariants as lines
use Rattle.dz_fleet.specs.Core.{Core}
use Rattle.dz_run.specs.Replaying.{State, opening, running}

-- a configuration that was read so far: none, or an allowed one
abbrev pub IsOpening : List CatalogSettings → Type 0
IsOpening config = (config ≡ []) ⊎ IsAllowed config

-- a configuration was put there if it is allowed, and otherwise none is left
abbrev pub IsPut : List CatalogSettings → Bool → List CatalogSettings → Type 0
IsPut config done left = (done ≡ is_allowed config) × (left ≡ (if done then config else []))

-- a configuration with a group more was put there if it is allowed; none is left where the group's catalog isn't there
abbrev pub IsGrouped : Option (List CatalogSettings) → Bool → List CatalogSettings → Type 0
IsGrouped None done left = (done ≡ false) × (left ≡ [])
IsGrouped (Some config) done left = IsPut config done left

-- the configuration where no event came, and else the core
abbrev pub state_in : List CatalogSettings → Option Core → State
state_in config None = opening config
state_in config (Some c) = running c

-- an event's moment is below its limit
abbrev pub IsTimed : Line → Type 0
IsTimed lines.Skip = ⊤
IsTimed (lines.Catalog settings) = ⊤
IsTimed (lines.Group name group) = ⊤
IsTimed (lines.Event moment event) = moment < 2 ^ 40
