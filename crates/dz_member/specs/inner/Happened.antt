-- Inner: what happened to a zone, with numbers in place of names.
use Rattle.std.specs.Prelude.{ℕ, ◌<◌, ⊤, nat_eq, not, Bool, true, false, ◌&&◌, if◌then◌else◌, List, Some, None, length}
use Rattle.std.specs.List.{list_any}
use Rattle.std.specs.Prelude.{slice_index_or}
use Rattle.dz_settings.specs.declared.config.CatalogSettings.{CatalogSettings}
use Rattle.dz_member.specs.declared.change.What.{What}
use Rattle.dz_member.specs.declared.change.What.TheVariants.{Added, Removed, Reset, Moved, MovedReset, Clash, Regrouped}
use Rattle.dz_member.specs.declared.change.Change.{Change}
use Rattle.dz_member.specs.declared.change.Happening.{Happening}
use Rattle.dz_member.specs.declared.change.Happened.{Happened}
use Rattle.dz_member.specs.declared.change.Happened.TheVariants as happened
use Rattle.dz_member.specs.Membership.{settings_at}
use Rattle.dz_name.specs.Words.{Name}

-- the name of the catalog of a number
abbrev pub name_at : List CatalogSettings → ℕ → Name
name_at catalogs number = (settings_at catalogs number).name

-- what happened, with the names of the catalogs
abbrev pub what_of : List CatalogSettings → Happened → What
what_of catalogs (happened.Added number) = Added (name_at catalogs number)
what_of catalogs (happened.Removed number) = Removed (name_at catalogs number)
what_of catalogs (happened.Reset number) = Reset (name_at catalogs number)
what_of catalogs (happened.Moved from to) = Moved (name_at catalogs from) (name_at catalogs to)
what_of catalogs (happened.MovedReset from to) = MovedReset (name_at catalogs from) (name_at catalogs to)
what_of catalogs (happened.Clash None) = Clash None
what_of catalogs (happened.Clash (Some holder)) = Clash (Some (name_at catalogs holder))
what_of catalogs (happened.Regrouped number) = Regrouped (name_at catalogs number)

-- what happened to a zone, with the names of the catalogs
abbrev pub change_of : List CatalogSettings → Happening → Change
change_of catalogs h = record { zone = h.zone; what = what_of catalogs h.what }

-- the catalogs of the numbers exist
abbrev pub IsConfigured : List CatalogSettings → Happened → Type 0
IsConfigured catalogs (happened.Added number) = number < length catalogs
IsConfigured catalogs (happened.Removed number) = number < length catalogs
IsConfigured catalogs (happened.Reset number) = number < length catalogs
IsConfigured catalogs (happened.Moved from to) = (from < length catalogs) × (to < length catalogs)
IsConfigured catalogs (happened.MovedReset from to) = (from < length catalogs) × (to < length catalogs)
IsConfigured catalogs (happened.Clash None) = ⊤
IsConfigured catalogs (happened.Clash (Some holder)) = holder < length catalogs
IsConfigured catalogs (happened.Regrouped number) = number < length catalogs

-- it is a clash
abbrev pub clashes : Happened → Bool
clashes (happened.Clash holder) = true
clashes what = false

-- the zone leaves the catalog of a number
abbrev pub leaves : ℕ → Happened → Bool
leaves number (happened.Moved from to) = nat_eq from number
leaves number (happened.MovedReset from to) = nat_eq from number
leaves number what = false

-- whether the catalog of a number is settled after a listing: the listing's own is where there is no clash, and another
-- one stays so unless a zone leaves it
abbrev pub is_settled_after : List Bool → ℕ → List Happening → ℕ → Bool
is_settled_after settled listed changes number =
    if nat_eq number listed then not (list_any (λ h. clashes h.what) changes)
    else slice_index_or settled number false && not (list_any (λ h. leaves number h.what) changes)
