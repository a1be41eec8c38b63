-- Inner: what a catalog's new version makes of the members, and the versions that the last listings were read from.
use Rattle.std.specs.Prelude.{◌≡◌, List, map, Option, Result, Ok, Err}
use Rattle.std.specs.Option.{option_map}
use Rattle.dz_zone.specs.Version.{Zone}
use Rattle.dz_catalog.specs.Listing.{listing_of}
use Rattle.dz_member.specs.declared.listing.Node.{Node}
use Rattle.dz_member.specs.declared.listing.Broken.{Broken as Reason}
use Rattle.dz_member.specs.Fold.{FoldOf}
use Rattle.dz_member.specs.Process.{process, changes, EachZone}
use Rattle.dz_history.specs.State.{State, IsState}
use Rattle.dz_history.specs.declared.processed.Processed.{Processed}
use Rattle.dz_history.specs.declared.processed.Relisting.{Relisting}
use Rattle.dz_history.specs.declared.processed.Processed.TheVariants.{Broken, Listed}

-- the fold and the changes are those after the listing of a catalog's version
pub record AreProcessed (s : State) (version : Zone) (r : Relisting) : Type 0 where
  pub nodes : List Node
  pub listing : listing_of version.apex version.records ≡ Ok nodes
  pub fold : r.fold ≡ process s.fold version.apex nodes s.count
  pub changes : r.changes ≡ changes s.fold version.apex nodes s.count
  pub each : EachZone s.fold version.apex nodes s.count r.fold r.changes

-- what was made is that of the listing of a catalog's version, or the reason why there is none
abbrev pub IsProcessed : State → Zone → Processed → Type 0
IsProcessed s version (Broken reason) = listing_of version.apex version.records ≡ Err reason
IsProcessed s version (Listed relisting) = AreProcessed s version relisting

-- the listing of a version, if there is one
abbrev pub listing_in : Option Zone → Option (Result (List Node) Reason)
listing_in version = option_map (λ zone. listing_of zone.apex zone.records) version

-- each catalog's last listing is that of the version at its number
abbrev pub AreSources : FoldOf → List (Option Zone) → Type 0
AreSources fold sources = map listing_in sources ≡ map (option_map Ok) fold.listings

-- what is kept makes a state, and each last listing was read from its source
pub record AreHoldings (s : State) (sources : List (Option Zone)) : Type 0 where
  pub state : IsState s
  pub read : AreSources s.fold sources
