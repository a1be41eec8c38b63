-- Inner: the order of a listing's zones, given by the places of its nodes.
use Rattle.std.specs.Prelude.{◌≡◌, ℕ, List, map, slice_get, Some}
use Rattle.dz_name.specs.Words.{Name}
use Rattle.dz_member.specs.declared.listing.Node.{Node}
use Rattle.dz_member.specs.declared.sort.Placed.{Placed}
use Rattle.dz_member.specs.Listing.{IsListing}
use Rattle.dz_member.specs.Process.{in_zone_order}

-- the nodes at these places are in the order of their zones
abbrev pub ArePlaces : List Node → List ℕ → Type 0
ArePlaces nodes places = map (slice_get nodes) places ≡ map Some (in_zone_order nodes)

-- the nodes make a listing, and these places are the order of their zones
pub record IsPlaced (nodes : List Node) (places : List ℕ) : Type 0 where
  pub listing : IsListing nodes
  pub in_order : ArePlaces nodes places

-- a node that is at its place
abbrev pub IsAt : List Node → Placed → Type 0
IsAt nodes p = slice_get nodes p.place ≡ Some p.node

-- the nodes of some that have their places
abbrev pub nodes_in : List Placed → List Node
nodes_in ps = map (λ p. p.node) ps

-- their zones
abbrev pub zones_in : List Placed → List Name
zones_in ps = map (λ n. n.zone) (nodes_in ps)
