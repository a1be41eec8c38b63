-- Meaning: the records of the generated zones and of their catalog.
use Rattle.std.specs.Prelude.{ℕ, ◌++◌, ◌%◌, Bool, ◌==◌, List, [], ◌∷◌, codes, if◌then◌else◌}
use Rattle.sha2.specs.Sha512.{sha384}
use Rattle.dz_name.specs.Name.{wire_of}
use Rattle.dz_name.specs.Numbers.{two, four}
use Rattle.dz_name.specs.Words.{Name, Kind, Octets}
use Rattle.dz_name.specs.declared.dns.TheConstants.{TYPE_A, TYPE_NS, TYPE_SOA, TYPE_PTR, TYPE_TXT, TYPE_ZONEMD}
use Rattle.dz_record.specs.Record.{Record}
use Rattle.dz_zone.specs.Version.{zone_of}
use Rattle.dz_zonemd.specs.Digested.{digested}
use Rattle.dz_gen.specs.Texts.{named, numbered}

-- a record with a TTL of an hour
abbrev pub hourly : Name → Kind → Octets → Record
hourly owner kind rdata = record { owner = owner; kind = kind; ttl = 3600; rdata = rdata }

-- REFRESH 100, RETRY 60, EXPIRE 600, MINIMUM 30 (RFC 1035 section 3.3.13)
abbrev pub times : Octets
times = ((four 100 ++ four 60) ++ four 600) ++ four 30

-- the SOA of a zone at a serial, with these times (RFC 1035 section 3.3.13)
abbrev pub soa : Name → ℕ → Record
soa apex serial = hourly apex TYPE_SOA
    (((wire_of (named (codes "ns.invalid.")) ++ wire_of (named (codes "host.invalid."))) ++ four serial) ++ times)

-- ---- the catalog (RFC 9432 section 4)
-- the apex of the catalog, cat.test.
abbrev pub catalog : Name
catalog = named (codes "cat.test.")

-- the version of the catalog's schema, 2 (RFC 9432 section 4.2.1)
abbrev pub version_property : Record
version_property =
    record { owner = named (codes "version.cat.test."); kind = TYPE_TXT; ttl = 0; rdata = 1 ∷ codes "2" }

-- zone k
abbrev pub zone : ℕ → Name
zone k = named (numbered (codes "z") k (codes ".test."))

-- a zone's member node (RFC 9432 section 4.1), whose label is this letter and the number
abbrev pub node : Octets → ℕ → Record
node letter k = hourly (named (numbered letter k (codes ".zones.cat.test."))) TYPE_PTR (wire_of (zone k))

-- the group of a zone's member node (RFC 9432 section 4.3.2)
abbrev pub group : ℕ → Record
group k = hourly (named (numbered (codes "group.m") k (codes ".zones.cat.test."))) TYPE_TXT (6 ∷ codes "strict")

-- zones of odd numbers are of the group, and have digests
abbrev pub is_strict : ℕ → Bool
is_strict k = k % 2 == 1

-- the records of a member: its node, and its group where it has one
abbrev pub member : ℕ → List Record
member k = node (codes "m") k ∷ (if is_strict k then group k ∷ [] else [])

-- ---- a zone
-- a zone's NS record
abbrev pub name_server : ℕ → Record
name_server k = hourly (zone k) TYPE_NS (wire_of (named (codes "ns.invalid.")))

-- the address 10.second.a.b, where k is a times 256 and b
abbrev pub address : Name → ℕ → ℕ → Record
address owner second k = hourly owner TYPE_A (10 ∷ second ∷ two k)

-- the name of a zone that has an address from serial 1 on
abbrev pub www : ℕ → Name
www k = named (numbered (codes "www.z") k (codes ".test."))

-- the address of a zone that serial 2 adds
abbrev pub mail : ℕ → Record
mail k = address (named (numbered (codes "mail.z") k (codes ".test."))) 1 k

-- the records of a zone's serial 1, without a digest
abbrev pub first_records : ℕ → List Record
first_records k = soa (zone k) 1 ∷ name_server k ∷ address (www k) 0 k ∷ []

-- the records of a zone's serial 2, without a digest: `mail` is added
abbrev pub second_records : ℕ → List Record
second_records k = soa (zone k) 2 ∷ name_server k ∷ address (www k) 0 k ∷ mail k ∷ []

-- the ZONEMD record of the version that records make: scheme SIMPLE, SHA-384 (RFC 8976 section 2.2)
abbrev pub digest : Name → ℕ → List Record → Record
digest apex serial records =
    hourly apex TYPE_ZONEMD (four serial ++ (1 ∷ 1 ∷ sha384 (digested apex (zone_of apex records).records)))

-- a record that zones of the group `strict` alone have
abbrev pub if_strict : ℕ → Record → List Record
if_strict k r = if is_strict k then r ∷ [] else []

-- the digest of serial 1, where the zone has one
abbrev pub first_digest : ℕ → List Record
first_digest k = if_strict k (digest (zone k) 1 (first_records k))

-- the digest of serial 2, where the zone has one
abbrev pub second_digest : ℕ → List Record
second_digest k = if_strict k (digest (zone k) 2 (second_records k))
