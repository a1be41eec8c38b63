-- Inner: what edits of a listing touch.
use Rattle.std.specs.Prelude.{◌≡◌, ℕ, Bool, true, not, ◌||◌, List, map, Option, Some, None, if◌then◌else◌}
use Rattle.std.specs.Option.{option_map, option_map_or}
use Rattle.std.specs.List.{find, list_any}
use Rattle.std.specs.List.Sorted.{IsStrictlySortedBy}
use Rattle.dz_name.specs.Words.{Name}
use Rattle.dz_name.specs.Name.{canonical_order, same_name, same_label}
use Rattle.dz_member.specs.declared.edit.Edit.{Edit}
use Rattle.dz_member.specs.declared.membership.Membership.{Membership}
use Rattle.dz_member.specs.Membership.{shown, IsNumbered}
use Rattle.dz_member.specs.Fold.{FoldOf, member_of, listing_of}
use Rattle.dz_member.specs.declared.listing.Node.{Node}
use Rattle.dz_member.specs.declared.change.Change.{Change}
use Rattle.dz_member.specs.Listing.{IsListing}
use Rattle.dz_member.specs.Process.{judged, node_of, process, changes, EachZone}
use Rattle.dz_member.specs.Settled.{IsSettled}

-- a zone is no member of the catalog at a label that isn't edited
abbrev pub is_free : FoldOf → Name → List Edit → Name → Bool
is_free fold catalog edits zone =
    option_map_or (λ m. not (same_name m.catalog catalog) || list_any (λ e. same_label e.label m.label) edits)
    (member_of zone fold.members) true

-- a zone is one of these
abbrev pub is_one : List Name → Name → Bool
is_one zones zone = list_any (λ z. same_name z zone) zones

-- the membership of a zone
abbrev pub membership_of : Name → List Membership → Option Membership
membership_of zone ms = find (λ m. same_name m.zone zone) ms

-- these are the memberships of some zones
pub record IsTouched (fold : FoldOf) (zones : List Name) (touched : List Membership) : Type 0 where
  pub each : (zone : Name) → member_of zone (map (shown fold.config) touched)
      ≡ (if is_one zones zone then member_of zone fold.members else None)
  pub numbered : (zone : Name) (m : Membership) → membership_of zone touched ≡ Some m → IsNumbered fold.config m
  pub order : IsStrictlySortedBy canonical_order (map (λ m. m.zone) touched)

-- at each of some zones is what others have, and at each other zone what there was
pub record IsReplaced (before others : List Membership) (zones : List Name) (after : List Membership) : Type 0 where
  pub each : (zone : Name) → membership_of zone after
      ≡ (if is_one zones zone then membership_of zone others else membership_of zone before)
  pub order : IsStrictlySortedBy canonical_order (map (λ m. m.zone) after)

-- at each of some zones the members and the changes are what is judged with these nodes, and at each other zone nothing
-- has changed
pub record AreAfter (fold : FoldOf) (catalog : Name) (position : ℕ) (zones : List Name) (put : List Node)
    (after : List Membership) (cs : List Change) : Type 0 where
  pub members : (zone : Name) → member_of zone (map (shown fold.config) after) ≡ (if is_one zones zone
      then (judged fold catalog position (member_of zone fold.members) (node_of zone put)).stands
      else member_of zone fold.members)
  pub order : IsStrictlySortedBy canonical_order (map (λ m. m.zone) after)
  pub changes : (zone : Name) → option_map (λ c. c.what) (find (λ c. same_name c.zone zone) cs) ≡ (if is_one zones zone
      then (judged fold catalog position (member_of zone fold.members) (node_of zone put)).change else None)
  pub told : IsStrictlySortedBy canonical_order (map (λ c. c.zone) cs)

-- these are the fold and the changes after a listing
pub record IsProcessed (fold : FoldOf) (catalog : Name) (nodes : List Node) (position : ℕ) (after : FoldOf)
    (cs : List Change) : Type 0 where
  pub listing : IsListing nodes
  pub fold_is : after ≡ process fold catalog nodes position
  pub changes_are : cs ≡ changes fold catalog nodes position
  pub each : EachZone fold catalog nodes position after cs

-- these nodes are the last listing of a catalog, which is settled
pub record IsLast (fold : FoldOf) (catalog : Name) (nodes : List Node) : Type 0 where
  pub known : listing_of fold catalog ≡ Some nodes
  pub listing : IsListing nodes
  pub settled : IsSettled fold catalog nodes
