-- Meaning: the places of zones: the catalogs in the order of the configuration, and then the members in canonical
-- order.
use Rattle.std.specs.Prelude.{◌≡◌, ℕ, ◌+◌, List, ◌++◌, length, map, position, slice_get, Option, Some, None, IsSome}
use Rattle.std.specs.Option.{option_map}
use Rattle.std.specs.List.{AllByRecursion}
use Rattle.dz_name.specs.Words.{Name}
use Rattle.dz_name.specs.Name.{same_name}
use Rattle.dz_settings.specs.declared.config.CatalogSettings.{CatalogSettings}
use Rattle.dz_member.specs.Membership.{MemberOf}
use Rattle.dz_member.specs.Fold.{number_of}
use Rattle.dz_history.specs.State.{State, catalog_at}

-- a zone with its incarnation
pub record Seat : Type 0 where
  pub zone : Name
  pub incarnation : ℕ

-- a catalog with its incarnation, which is 0
abbrev pub catalog_seat : CatalogSettings → Seat
catalog_seat c = record { zone = c.name; incarnation = 0 }

-- a member with its incarnation
abbrev pub member_seat : MemberOf → Seat
member_seat m = record { zone = m.zone; incarnation = m.incarnation }

-- all that is assigned, by its places
abbrev pub seats : State → List Seat
seats s = map catalog_seat s.fold.config ++ map member_seat s.fold.members

-- the place of a catalog, which is its number, or of a member, after the catalogs
abbrev pub place_from : State → Name → Option ℕ → Option ℕ
place_from s zone (Some number) = Some number
place_from s zone None =
    option_map (λ place. length s.fold.config + place) (position (λ m. same_name m.zone zone) s.fold.members)

-- the place of a zone, if it is a catalog or a member
unfoldable pub place_at : State → Name → Option ℕ
place_at s zone = place_from s zone (catalog_at s zone)

-- no member is a configured catalog (RFC 9432 section 4.1)
abbrev pub IsApart : State → Type 0
IsApart s = AllByRecursion (λ m. number_of s.fold.config m.zone ≡ None) s.fold.members

-- the catalog of each member is configured
abbrev pub IsPlacedIn : State → Type 0
IsPlacedIn s = AllByRecursion (λ m. IsSome (number_of s.fold.config m.catalog)) s.fold.members

-- an incarnation of a zone has a place
pub record IsSeated (s : State) (zone : Name) (incarnation : ℕ) : Type 0 where
  pub place : ℕ
  pub at : place_at s zone ≡ Some place
  pub there : slice_get (seats s) place ≡ Some record { zone = zone; incarnation = incarnation }
