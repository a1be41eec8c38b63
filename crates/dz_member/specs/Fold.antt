-- Meaning: what is known of catalogs and their members (RFC 9432 section 5).
use Rattle.std.specs.Prelude.{◌≡◌, ℕ, List, [], length, map, replicate, position, slice_index_or, slice_set, Option}
use Rattle.std.specs.Prelude.{Some, None}
use Rattle.std.specs.Option.{option_map_or}
use Rattle.std.specs.List.{find}
use Rattle.std.specs.List.Sorted.{IsStrictlySortedBy}
use Rattle.dz_name.specs.Words.{Name}
use Rattle.dz_name.specs.Name.{canonical_order, same_name}
use Rattle.dz_settings.specs.declared.config.CatalogSettings.{CatalogSettings}
use Rattle.dz_member.specs.declared.listing.Node.{Node}
use Rattle.dz_settings.specs.Config.{IsAllowed}
use Rattle.dz_member.specs.Membership.{MemberOf}

-- the configuration, the members in the canonical order of their zones, and for each catalog, in the order of the
-- configuration, its last unbroken listing, if it had one
pub record FoldOf : Type 0 where
  pub config : List CatalogSettings
  pub members : List MemberOf
  pub listings : List (Option (List Node))

-- the number of a catalog in the configuration
abbrev pub number_of : List CatalogSettings → Name → Option ℕ
number_of catalogs name = position (λ c. same_name c.name name) catalogs

-- the last unbroken listing of a catalog
abbrev pub listing_of : FoldOf → Name → Option (List Node)
listing_of fold catalog =
    option_map_or (λ number. slice_index_or fold.listings number None) (number_of fold.config catalog) None

-- the listings with this one as a catalog's last
abbrev pub with_listing : FoldOf → Name → List Node → List (Option (List Node))
with_listing fold catalog nodes =
    option_map_or (λ number. slice_set fold.listings number (Some nodes)) (number_of fold.config catalog) fold.listings

-- the member of a zone
abbrev pub member_of : Name → List MemberOf → Option MemberOf
member_of zone members = find (λ m. same_name m.zone zone) members

-- the configuration is within its limits, the members are in canonical order, one at most for each zone, and there is
-- a place for a listing of each catalog
pub record IsFold (fold : FoldOf) : Type 0 where
  pub allowed : IsAllowed fold.config
  pub rises : IsStrictlySortedBy canonical_order (map (λ m. m.zone) fold.members)
  pub each : length fold.listings ≡ length fold.config

-- the fold of a configuration alone
abbrev pub started : List CatalogSettings → FoldOf
started config = record { config = config; members = []; listings = replicate (length config) None }
