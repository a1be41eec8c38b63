-- Inner: the records of a node and of the names below it, which are together where records are in order.
use Rattle.std.specs.Prelude.{Bool, ◌==◌, ◌&&◌, List, map, filter, find, Option, None, if◌then◌else◌}
use Rattle.std.specs.List.{take_while}
use Rattle.std.specs.Option.{option_map, option_and_then}
use Rattle.dz_name.specs.Name.{same_name, is_within, first_label}
use Rattle.dz_name.specs.Words.{Kind, Name, Octets}
use Rattle.dz_name.specs.declared.dns.TheConstants.{TYPE_PTR, TYPE_TXT}
use Rattle.dz_record.specs.Record.{Record, target_of}
use Rattle.dz_member.specs.declared.listing.Node.{Node}
use Rattle.dz_catalog.specs.Member.{is_member, coo_name, group_name}

-- of the records after one of a node, those of the node and of the names below it
abbrev pub below : Name → List Record → List Record
below node records = take_while (λ r. is_within r.owner node) records

-- a record of this type and this owner
abbrev pub is_at : Kind → Name → Record → Bool
is_at kind name r = r.kind == kind && same_name r.owner name

-- the catalog that a node's change of ownership names, where those records alone are looked at
abbrev pub coo_among : Name → List Record → Option Name
coo_among node records = option_and_then target_of (find (is_at TYPE_PTR (coo_name node)) records)

-- a node's groups, where those records alone are looked at
abbrev pub groups_among : Name → List Record → List Octets
groups_among node records = map (λ r. r.rdata) (filter (is_at TYPE_TXT (group_name node)) records)

-- a member node, where those records alone are looked at
abbrev pub node_among : Name → List Record → Octets → Name → Node
node_among owner records label zone = record {
  label = label;
  zone = zone;
  coo = coo_among owner records;
  groups = groups_among owner records;
}

-- the member node of a record, by the records that follow it
unfoldable pub node_behind : Name → Record → List Record → Option Node
node_behind apex r behind =
    if is_member apex r
    then option_and_then (λ label. option_map (node_among r.owner (below r.owner behind) label) (target_of r))
    (first_label r.owner)
    else None
