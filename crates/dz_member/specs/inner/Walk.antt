-- Inner: the walk over memberships and nodes that are both in the order of their zones.
use Rattle.std.specs.Prelude.{ℕ, true, List, map, Option, Some, None}
use Rattle.std.specs.declared.cmp.Ordering.{Ordering}
use Rattle.std.specs.declared.cmp.Ordering.TheVariants.{Less, Equal, Greater}
use Rattle.std.specs.Option.{option_map}
use Rattle.std.specs.List.{find, filter_map}
use Rattle.std.specs.Set.{sorted_merge}
use Rattle.dz_name.specs.Words.{Name}
use Rattle.dz_name.specs.Name.{same_name, canonical_order}
use Rattle.dz_member.specs.declared.listing.Node.{Node}
use Rattle.dz_member.specs.declared.membership.Membership.{Membership}
use Rattle.dz_member.specs.declared.change.Change.{Change}
use Rattle.dz_member.specs.declared.walk.Pair.{Pair as Lent}
use Rattle.dz_member.specs.Membership.{MemberOf, shown}
use Rattle.dz_member.specs.Fold.{FoldOf}
use Rattle.dz_member.specs.Process.{Judgement, judged, node_of}

-- what is judged of a zone, given its membership and its node
abbrev pub Judge : Type 0
Judge = Option Membership → Option Node → Judgement

-- what a listing's catalog judges of a membership and a node
abbrev pub judge_of : FoldOf → Name → ℕ → Judge
judge_of fold catalog position held node = judged fold catalog position (option_map (shown fold.config) held) node

-- a zone and what was judged of it
pub record Spot : Type 0 where
  pub zone : Name
  pub judged : Judgement

-- what is judged of each zone that is held or listed, by itself
unfoldable pub spots : Judge → List Membership → List Node → List Spot
spots judge members nodes =
    map
    (λ zone. record { zone = zone; judged = judge (find (λ m. same_name m.zone zone) members) (node_of zone nodes) })
    (sorted_merge canonical_order true (map (λ m. m.zone) members) (map (λ node. node.zone) nodes))

-- the members that are held afterwards
abbrev pub members_in : List Spot → List MemberOf
members_in ss = filter_map (λ s. s.judged.stands) ss

-- the changes
abbrev pub changes_in : List Spot → List Change
changes_in ss = filter_map (λ s. option_map (λ what. record { zone = s.zone; what = what }) s.judged.change) ss

-- the first zone of memberships and nodes in zone order, its membership, and its node
pub record Pair : Type 0 where
  pub zone : Name
  pub member : Option Membership
  pub node : Option Node

-- the first pair, by how the zone of the first membership compares with that of the first node
abbrev pub pair_by : Ordering → Membership → Node → Pair
pair_by Less m n = record { zone = m.zone; member = Some m; node = None }
pair_by Equal m n = record { zone = m.zone; member = Some m; node = Some n }
pair_by Greater m n = record { zone = n.zone; member = None; node = Some n }

-- the first pair of the first membership and the first node
abbrev pub first_pair : Option Membership → Option Node → Option Pair
first_pair None None = None
first_pair None (Some n) = Some record { zone = n.zone; member = None; node = Some n }
first_pair (Some m) None = Some record { zone = m.zone; member = Some m; node = None }
first_pair (Some m) (Some n) = Some (pair_by (canonical_order m.zone n.zone) m n)

-- a pair with the membership and the node that it refers to
abbrev pub pair_of : Lent → Pair
pair_of p = record {
  zone = p.zone;
  member = option_map (λ r. r.now) p.member;
  node = option_map (λ r. r.now) p.node;
}
