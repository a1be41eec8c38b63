-- Judge: a catalog that is made is read back as it was meant, and its digest verifies it.
use Rattle.std.specs.Prelude.{◌≡◌, ℕ, ◌<◌, ◌^◌, Bool, List, map, Some, None, Ok}
use Rattle.std.specs.Cmp.Lexicographic.{slice_cmp}
use Rattle.std.specs.List.{All}
use Rattle.std.specs.Option.{ForSome}
use Rattle.std.specs.Ordering.{is_lt, nat_cmp}
use Rattle.dz_name.specs.Name.{IsLabel, IsName, label_order}
use Rattle.dz_name.specs.Words.{Name, Octets}
use Rattle.dz_member.specs.Sorting.{sorted_by}
use Rattle.dz_member.specs.declared.listing.Node.{Node}
use Rattle.dz_catalog.specs.Listing.{listing_of}
use Rattle.dz_zonemd.specs.Standing.{standing}
use Rattle.dz_zonemd.specs.declared.acceptance.Standing.TheVariants.{Good}
use Rattle.dz_zone.specs.Version.{Zone, IsVersion}
use Rattle.dz_take.specs.Outcome.{outcome}
use Rattle.dz_take.specs.Transfer.{Transfer, new}
use Rattle.dz_take.specs.declared.ask.Ask.TheVariants.{Ixfr}
use Rattle.dz_producer.specs.Amended.{IsCatalog, nodes_after, amend_fault, difference_octets}
use Rattle.dz_producer.specs.Faults.{produce_fault}
use Rattle.dz_producer.specs.Produced.{produced}

-- ---- nodes are in the order of their labels, and the groups of each in the order of their octets
-- octets come before others in the order of their values
abbrev pub octets_before : Octets → Octets → Bool
octets_before a b = is_lt (slice_cmp nat_cmp a b)

-- a node with its groups in order
abbrev pub with_sorted_groups : Node → Node
with_sorted_groups node = record node { groups = sorted_by octets_before node.groups }

-- a node's label comes before another's
abbrev pub label_before : Node → Node → Bool
label_before a b = is_lt (label_order a.label b.label)

-- the nodes in order
abbrev pub in_label_order : List Node → List Node
in_label_order nodes = sorted_by label_before (map with_sorted_groups nodes)

-- what is known of every node
pub record IsNode (node : Node) : Type 0 where
  pub label : IsLabel node.label
  pub zone : IsName node.zone
  pub coo : ForSome node.coo IsName

-- ---- the laws, of nodes without a fault
-- the catalog that is made lists its nodes, in order
abbrev pub ListsItsNodes : Type 0
ListsItsNodes = (apex : Name) (serial : ℕ) (nodes : List Node) → All IsNode nodes
    → produce_fault apex serial nodes ≡ None
    → listing_of apex (produced apex serial nodes).records ≡ Ok (in_label_order nodes)

-- the digest of the catalog that is made verifies it (RFC 8976 section 4)
abbrev pub StandsGood : Type 0
StandsGood = (apex : Name) (serial : ℕ) (nodes : List Node) → serial < 2 ^ 32
    → standing apex (produced apex serial nodes).records ≡ Good

-- ---- a change is read back against the version that was changed (RFC 1995 section 4)
-- an IXFR with ID 0 to one that holds the version that was changed
abbrev pub change_of : Zone → Transfer
change_of old = record { apex = old.apex; ask = Ixfr; id = 0; held = Some old }

-- the difference leads to the catalog of the nodes after the change
abbrev pub LeadsOn : Type 0
LeadsOn = (old : Zone) (serial : ℕ) (dropped : List Octets) (added : List Node) → IsVersion old → IsCatalog old
    → serial < 2 ^ 32 → All IsNode added → amend_fault old serial dropped added ≡ None
    → outcome (change_of old) (difference_octets old serial dropped added)
    ≡ new (produced old.apex serial (nodes_after old dropped added))
