-- Meaning: the member nodes of a catalog zone and their properties (RFC 9432 sections 4.1 and 4.3). The records of the
-- zone are in any order.
use Rattle.std.specs.Prelude.{Bool, false, ◌==◌, ◌&&◌, List, ◌∷◌, map, codes, slice_get, Option, None, if◌then◌else◌}
use Rattle.std.specs.List.{filter_map}
use Rattle.std.specs.Option.{option_map, option_map_or, option_and_then}
use Rattle.dz_name.specs.Name.{same_name, same_label, first_label, parent_of}
use Rattle.dz_name.specs.Words.{Name, Octets}
use Rattle.dz_name.specs.declared.dns.TheConstants.{TYPE_PTR, TYPE_TXT}
use Rattle.dz_record.specs.Record.{Record, target_of}
use Rattle.dz_record.specs.Records.{in_order}
use Rattle.dz_runs.specs.Runs.{of_type, records_of}
use Rattle.dz_member.specs.declared.listing.Node.{Node}

-- the name whose children are member nodes (RFC 9432 section 4.1)
abbrev pub zones_of : Name → Name
zones_of apex = codes "zones" ∷ apex

-- a member node's name: one label below `zones`, whatever the label is (RFC 9432 section 4.1)
abbrev pub is_node : Name → Name → Bool
is_node apex name = option_map_or (λ above. same_name above (zones_of apex)) (parent_of name) false

-- the name of a node's change of ownership (RFC 9432 section 4.3.1)
abbrev pub coo_name : Name → Name
coo_name node = codes "coo" ∷ node

-- the name of a node's groups (RFC 9432 section 4.3.2)
abbrev pub group_name : Name → Name
group_name node = codes "group" ∷ node

-- the first label of a name is this one
abbrev pub begins_with : Octets → Name → Bool
begins_with label name = option_map_or (λ first. same_label first label) (first_label name) false

-- the name of a change of ownership, at a label that need not own a PTR
abbrev pub is_coo : Name → Name → Bool
is_coo apex name = begins_with (codes "coo") name && option_map_or (is_node apex) (parent_of name) false

-- a member record: the PTR of a member node (RFC 9432 section 4.1)
abbrev pub is_member : Name → Record → Bool
is_member apex r = r.kind == TYPE_PTR && is_node apex r.owner

-- the catalog that a node's change of ownership names; where there are more, that of the first record (RFC 9432
-- section
-- 4.3.1)
abbrev pub coo_of : List Record → Name → Option Name
coo_of records node = option_and_then target_of (slice_get (of_type TYPE_PTR (records_of records (coo_name node))) 0)

-- a node's groups: the RDATA of its group records, in order (RFC 9432 section 4.3.2)
abbrev pub groups_of : List Record → Name → List Octets
groups_of records node = map (λ r. r.rdata) (of_type TYPE_TXT (records_of records (group_name node)))

-- a member node by its owner and its zone: its label, the zone, the change of ownership, the groups
abbrev pub node_from : Name → List Record → Octets → Name → Node
node_from owner records label zone = record {
  label = label;
  zone = zone;
  coo = coo_of records owner;
  groups = groups_of records owner;
}

-- the member node of a record, if it is a member record whose RDATA is a name
unfoldable pub node_of : Name → List Record → Record → Option Node
node_of apex records r =
    if is_member apex r
    then option_and_then (λ label. option_map (node_from r.owner records label) (target_of r)) (first_label r.owner)
    else None

-- all member nodes, in the order of their labels
abbrev pub nodes_of : Name → List Record → List Node
nodes_of apex records = filter_map (node_of apex records) (in_order records)
