-- Meaning: the records of a catalog zone that is made of nodes (RFC 9432 section 4). The TTLs of a catalog say
-- nothing.
use Rattle.std.specs.Prelude.{ℕ, ◌++◌, List, [], ◌∷◌, map, flat_map, codes, Option, Some, None}
use Rattle.sha2.specs.Sha512.{sha384}
use Rattle.dz_name.specs.Name.{wire_of}
use Rattle.dz_name.specs.Numbers.{four}
use Rattle.dz_name.specs.Words.{Kind, Name, Octets}
use Rattle.dz_name.specs.declared.dns.TheConstants.{TYPE_NS, TYPE_PTR, TYPE_SOA, TYPE_TXT, TYPE_ZONEMD}
use Rattle.dz_record.specs.Record.{Record}
use Rattle.dz_zonemd.specs.Digested.{digested}
use Rattle.dz_zonemd.specs.declared.algorithm.TheConstants.{SCHEME_SIMPLE, ALGORITHM_SHA384}
use Rattle.dz_member.specs.declared.listing.Node.{Node}
use Rattle.dz_catalog.specs.Broken.{version_name, version_2}
use Rattle.dz_catalog.specs.Member.{zones_of, coo_name, group_name}

-- a record of the apex has a TTL of an hour
abbrev pub hourly : Name → Kind → Octets → Record
hourly owner kind rdata = record { owner = owner; kind = kind; ttl = 3600; rdata = rdata }

-- a record below the apex has a TTL of 0
abbrev pub uncached : Name → Kind → Octets → Record
uncached owner kind rdata = record { owner = owner; kind = kind; ttl = 0; rdata = rdata }

-- the name of a server that doesn't exist (RFC 9432 section 4)
abbrev pub invalid : Name
invalid = codes "invalid" ∷ []

-- REFRESH, RETRY, EXPIRE and MINIMUM (RFC 1035 section 3.3.13)
abbrev pub times : Octets
times = four 3600 ++ (four 600 ++ (four 2147483646 ++ four 0))

-- the RDATA of the SOA (RFC 1035 section 3.3.13)
abbrev pub soa_rdata : ℕ → Octets
soa_rdata serial = wire_of invalid ++ (wire_of invalid ++ (four serial ++ times))

-- the SOA of the catalog
abbrev pub soa : Name → ℕ → Record
soa apex serial = hourly apex TYPE_SOA (soa_rdata serial)

-- the NS record of the catalog
abbrev pub name_server : Name → Record
name_server apex = hourly apex TYPE_NS (wire_of invalid)

-- the schema's version (RFC 9432 section 4.2.1)
abbrev pub version_property : Name → Record
version_property apex = uncached (version_name apex) TYPE_TXT version_2

-- ---- a node (RFC 9432 section 4.1)
-- the owner name of a node's PTR
abbrev pub owner_of : Name → Node → Name
owner_of apex node = node.label ∷ zones_of apex

-- a node's PTR, to its zone
abbrev pub member : Name → Node → Record
member apex node = uncached (owner_of apex node) TYPE_PTR (wire_of node.zone)

-- a node's change of ownership, where it has one (RFC 9432 section 4.3.1)
abbrev pub coo_records : Name → Option Name → List Record
coo_records owner None = []
coo_records owner (Some catalog) = uncached (coo_name owner) TYPE_PTR (wire_of catalog) ∷ []

-- a node's groups (RFC 9432 section 4.3.2)
abbrev pub group_records : Name → List Octets → List Record
group_records owner groups = map (uncached (group_name owner) TYPE_TXT) groups

-- all records of a node: PTR, change of ownership, groups
unfoldable pub node_records : Name → Node → List Record
node_records apex node =
    member apex node ∷ (coo_records (owner_of apex node) node.coo ++ group_records (owner_of apex node) node.groups)

-- ---- the catalog, without its digest and with it
-- the catalog's SOA, NS and version, and the records of the nodes
abbrev pub plain_records : Name → ℕ → List Node → List Record
plain_records apex serial nodes =
    soa apex serial ∷ name_server apex ∷ version_property apex ∷ flat_map (node_records apex) nodes

-- the ZONEMD record of these records: scheme SIMPLE, SHA-384 (RFC 8976 section 2.2)
abbrev pub digest : Name → ℕ → List Record → Record
digest apex serial records =
    hourly apex TYPE_ZONEMD (four serial ++ (SCHEME_SIMPLE ∷ ALGORITHM_SHA384 ∷ sha384 (digested apex records)))

-- all records of the catalog, with the digest
abbrev pub all_records : Name → ℕ → List Node → List Record
all_records apex serial nodes =
    plain_records apex serial nodes ++ digest apex serial (plain_records apex serial nodes) ∷ []
