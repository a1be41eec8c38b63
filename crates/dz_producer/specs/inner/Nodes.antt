-- Inner: nodes that are kept elsewhere, and how many records they have.
use Rattle.std.specs.Prelude.{ℕ, ◌+◌, List, map, length, nat_lt, is_some, Option, Some, None, sum_by, if◌then◌else◌}
use Rattle.std.specs.Borrow.{Bor}
use Rattle.std.specs.Option.{ForSome}
use Rattle.dz_name.specs.Name.{IsName}
use Rattle.dz_name.specs.Words.{Name}
use Rattle.dz_member.specs.declared.listing.Node.{Node}

-- the zone of a node and the catalog that may take it over are names
pub record IsLed (node : Node) : Type 0 where
  pub zone : IsName node.zone
  pub coo : ForSome node.coo IsName

-- the nodes that references lead to
abbrev pub values : List (Bor Node) → List Node
values nodes = map (λ b. b.now) nodes

-- how many records a change of ownership has
abbrev pub coo_count : Option Name → ℕ
coo_count None = 0
coo_count (Some catalog) = 1

-- how many records a node has: its PTR, its change of ownership and its groups
abbrev pub record_count : Node → ℕ
record_count node = 1 + (coo_count node.coo + length node.groups)

-- all records: SOA, NS, version, digest, and those of the nodes
abbrev pub whole_count : List (Bor Node) → ℕ
whole_count nodes = 4 + sum_by (λ b. record_count b.now) nodes

-- how many octets more than its PTR the longest owner of a node's records has
abbrev pub property_size : Node → ℕ
property_size node = if nat_lt 0 (length node.groups) then 6 else if is_some node.coo then 4 else 0
