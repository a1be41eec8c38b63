-- Inner: the nodes of a listing in a map, each at its label.
use Rattle.std.specs.Prelude.{◌≡◌, List, map}
use Rattle.std.specs.List.{AllByRecursion}
use Rattle.std.specs.List.Sorted.{IsStrictlySortedBy}
use Rattle.dz_name.specs.Words.{Octets}
use Rattle.dz_name.specs.Name.{label_order}
use Rattle.dz_member.specs.declared.listing.Node.{Node}

-- nodes, each preceded by its label
abbrev pub entries_of : List Node → List (Octets × Node)
entries_of nodes = map (λ n. (n.label, n)) nodes

-- the nodes of entries
abbrev pub nodes_of : List (Octets × Node) → List Node
nodes_of entries = map (λ e. e.1) entries

-- a node at its own label
abbrev pub IsOwn : Octets × Node → Type 0
IsOwn e = e.0 ≡ e.1.label

-- each node is at its own label, and the labels rise
pub record AreNodes (entries : List (Octets × Node)) : Type 0 where
  pub own : AllByRecursion IsOwn entries
  pub order : IsStrictlySortedBy label_order (map (λ n. n.label) (nodes_of entries))
