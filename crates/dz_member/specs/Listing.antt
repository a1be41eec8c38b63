-- Meaning: which member nodes make a listing (RFC 9432 section 4.1).
use Rattle.std.specs.Prelude.{◌≡◌, ◌≤◌, Bool, false, List, length, map}
use Rattle.std.specs.List.Sorted.{IsStrictlySortedBy}
use Rattle.dz_name.specs.Name.{same_name, label_order}
use Rattle.dz_member.specs.declared.listing.Node.{Node}
use Rattle.dz_settings.specs.Twice.{has_twice}

-- two nodes of one zone
abbrev pub same_zone : Node → Node → Bool
same_zone a b = same_name a.zone b.zone

-- there are at most 65,536 nodes, in the order of their labels, no label and no zone twice
pub record IsListing (nodes : List Node) : Type 0 where
  pub labels : IsStrictlySortedBy label_order (map (λ node. node.label) nodes)
  pub zones : has_twice same_zone nodes ≡ false
  pub few : length nodes ≤ 65536
