-- Meaning: what the listing of a catalog changes, at each zone by itself (RFC 9432 sections 4.1, 4.3.1, 4.3.2, 5.2 and
-- 5.4).
use Rattle.std.specs.Prelude.{◌≡◌, ℕ, Bool, true, false, List, map, Option, Some, None, if◌then◌else◌}
use Rattle.std.specs.Option.{option_map, option_map_or, option_eq}
use Rattle.std.specs.Ordering.{is_lt}
use Rattle.std.specs.List.{find, filter_map, list_any}
use Rattle.std.specs.Set.{sorted_merge}
use Rattle.std.specs.Str.{bytes_eq}
use Rattle.dz_name.specs.Words.{Name, Octets}
use Rattle.dz_name.specs.Name.{same_name, same_label, canonical_order}
use Rattle.dz_settings.specs.declared.config.CatalogSettings.{CatalogSettings}
use Rattle.dz_member.specs.declared.listing.Node.{Node}
use Rattle.dz_member.specs.declared.change.What.{What}
use Rattle.dz_member.specs.declared.change.What.TheVariants.{Added, Removed, Reset, Moved, MovedReset, Clash}
use Rattle.dz_member.specs.declared.change.What.TheVariants.{Regrouped}
use Rattle.dz_member.specs.declared.change.Change.{Change}
use Rattle.dz_member.specs.Membership.{MemberOf, choice_of, settings_at}
use Rattle.dz_member.specs.Fold.{FoldOf, number_of, listing_of, with_listing, member_of}
use Rattle.dz_member.specs.Sorting.{sorted_by}

-- the member at a zone afterwards, and what happened to it
pub record Judgement : Type 0 where
  pub stands : Option MemberOf
  pub change : Option What

-- the word of the group that a node of this catalog belongs to (RFC 9432 section 4.3.2)
abbrev pub choice_in : List CatalogSettings → Name → Node → Option Octets
choice_in catalogs name node =
    option_map_or (λ number. choice_of (settings_at catalogs number).groups node.groups) (number_of catalogs name) None

-- the member of a node whose zone is new or reset: under this label and with the position as its incarnation
abbrev pub entered : FoldOf → Name → ℕ → Node → MemberOf
entered fold catalog position node = record {
  zone = node.zone;
  catalog = catalog;
  label = node.label;
  incarnation = position;
  choice = choice_in fold.config catalog node;
}

-- the node of a label has a coo, and it names this catalog (RFC 9432 section 4.3.1)
abbrev pub coo_names : List Node → Octets → Name → Bool
coo_names nodes label catalog = option_map_or (λ node. option_map_or (λ coo. same_name coo catalog) node.coo false)
    (find (λ node. same_label node.label label) nodes) false

-- the coo names this catalog in the last unbroken listing of the catalog that holds the member, at the member's label
abbrev pub consents : FoldOf → Name → MemberOf → Bool
consents fold catalog m = option_map_or (λ nodes. coo_names nodes m.label catalog) (listing_of fold m.catalog) false

-- a zone that its own catalog lists: under its label it stays, regrouped where its choice changed, and under another
-- label it is reset (RFC 9432 section 5.4)
abbrev pub held_here : FoldOf → Name → ℕ → MemberOf → Node → Judgement
held_here fold catalog position m node =
    if same_label m.label node.label then (
    if option_eq bytes_eq m.choice (choice_in fold.config catalog node) then record { stands = Some m; change = None }
    else record {
      stands = Some (record m { choice = choice_in fold.config catalog node });
      change = Some (Regrouped catalog);
    }
    ) else record { stands = Some (entered fold catalog position node); change = Some (Reset catalog) }

-- a zone that another catalog holds: with the holder's consent it moves, and is reset where its label is another one
-- (RFC 9432 section 4.3.1); without consent it is a clash (section 5.2)
abbrev pub held_elsewhere : FoldOf → Name → ℕ → MemberOf → Node → Judgement
held_elsewhere fold catalog position m node =
    if consents fold catalog m then (
    if same_label m.label node.label then record {
      stands = Some (record m { catalog = catalog; choice = choice_in fold.config catalog node });
      change = Some (Moved m.catalog catalog);
    } else record { stands = Some (entered fold catalog position node); change = Some (MovedReset m.catalog catalog) }
    ) else record { stands = Some m; change = Some (Clash (Some m.catalog)) }

-- a zone that isn't listed: where its own catalog holds it, it is removed; where another one does, it stays
abbrev pub unlisted : Name → MemberOf → Judgement
unlisted catalog m =
    if same_name m.catalog catalog then record { stands = None; change = Some (Removed catalog) }
    else record { stands = Some m; change = None }

-- a zone that is listed, and is no configured catalog: added, or judged by which catalog holds it
abbrev pub listed : FoldOf → Name → ℕ → Option MemberOf → Node → Judgement
listed fold catalog position None node =
    record { stands = Some (entered fold catalog position node); change = Some (Added catalog) }
listed fold catalog position (Some m) node =
    if same_name m.catalog catalog then held_here fold catalog position m node
    else held_elsewhere fold catalog position m node

-- the zone is a configured catalog
abbrev pub is_catalog : FoldOf → Name → Bool
is_catalog fold zone = list_any (λ c. same_name c.name zone) fold.config

-- what becomes of a zone that is held, listed, both or neither
unfoldable pub judged : FoldOf → Name → ℕ → Option MemberOf → Option Node → Judgement
judged fold catalog position None None = record { stands = None; change = None }
judged fold catalog position (Some m) None = unlisted catalog m
judged fold catalog position held (Some node) =
    if is_catalog fold node.zone then record { stands = held; change = Some (Clash None) }
    else listed fold catalog position held node

-- the node of a zone
abbrev pub node_of : Name → List Node → Option Node
node_of zone nodes = find (λ node. same_name node.zone zone) nodes

-- nodes in the canonical order of their zones
abbrev pub in_zone_order : List Node → List Node
in_zone_order nodes = sorted_by (λ a b. is_lt (canonical_order a.zone b.zone)) nodes

-- the zones that are held or listed, each once, in canonical order
abbrev pub zones_of : List MemberOf → List Node → List Name
zones_of members nodes =
    sorted_merge canonical_order true (map (λ m. m.zone) members) (map (λ node. node.zone) (in_zone_order nodes))

-- what is judged at one zone, independently of the others
abbrev pub judged_at : FoldOf → Name → List Node → ℕ → Name → Judgement
judged_at fold catalog nodes position zone =
    judged fold catalog position (member_of zone fold.members) (node_of zone nodes)

-- the fold after the listing of a catalog
unfoldable pub process : FoldOf → Name → List Node → ℕ → FoldOf
process fold catalog nodes position = record {
  config = fold.config;
  members = filter_map (λ zone. (judged_at fold catalog nodes position zone).stands) (zones_of fold.members nodes);
  listings = with_listing fold catalog nodes;
}

-- what a listing changes, at most once for each zone, in canonical order
unfoldable pub changes : FoldOf → Name → List Node → ℕ → List Change
changes fold catalog nodes position =
    filter_map (λ zone. option_map (λ what. record { zone = zone; what = what })
    (judged_at fold catalog nodes position zone).change) (zones_of fold.members nodes)

-- after a listing each zone has the membership and the change that it is judged to have by itself
pub record EachZone (fold : FoldOf) (catalog : Name) (nodes : List Node) (position : ℕ) (after : FoldOf)
    (cs : List Change) : Type 0 where
  pub member : (zone : Name) → member_of zone after.members ≡ (judged_at fold catalog nodes position zone).stands
  pub change : (zone : Name) → option_map (λ c. c.what) (find (λ c. same_name c.zone zone) cs)
      ≡ (judged_at fold catalog nodes position zone).change
