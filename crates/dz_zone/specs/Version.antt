-- Meaning: versions of zones, and which records make one (RFC 1034 section 3.6.2, RFC 2181 section 5, RFC 4034 section
-- 6).
use Rattle.std.specs.Prelude.{◌≡◌, ℕ, ◌<◌, length, slice_index_or, Bool, ◌==◌, ◌&&◌, ◌||◌, not, List, map, Option}
use Rattle.std.specs.Prelude.{Some, None}
use Rattle.std.specs.List.{All, find, list_any}
use Rattle.std.specs.List.Sorted.{IsStrictlySortedBy}
use Rattle.dz_name.specs.Words.{Name, Kind}
use Rattle.dz_name.specs.declared.dns.TheConstants.{TYPE_DNAME, TYPE_DS, TYPE_NS, TYPE_NSEC, TYPE_RRSIG, TYPE_SOA}
use Rattle.dz_name.specs.Name.{same_name}
use Rattle.dz_record.specs.Record.{Record, IsRecord, record_order}
use Rattle.dz_record.specs.Records.{distinct, in_order}
use Rattle.dz_zone.specs.Valid.{at_apex, fault_of}

-- a zone: the name of its apex, and its records
pub record Zone : Type 0 where
  pub apex : Name
  pub records : List Record

-- records in canonical order, no two the same, without a fault
pub record IsValid (zone : Zone) : Type 0 where
  pub rises : IsStrictlySortedBy record_order zone.records
  pub faultless : fault_of zone.apex zone.records ≡ None

-- a version: a valid zone of records that a zone may hold
pub record IsVersion (zone : Zone) : Type 0 where
  pub valid : IsValid zone
  pub held : All IsRecord zone.records

-- the zone that these records make, in whatever order they come: of those that are the same the first is kept
abbrev pub zone_of : Name → List Record → Zone
zone_of apex records = record { apex = apex; records = in_order (distinct records) }

-- the owners of records, one for each
abbrev pub owners_of : List Record → List Name
owners_of records = map (λ r. r.owner) records

-- a name below the apex owns an NS record: there is a zone cut (RFC 1034 section 4.2.1)
abbrev pub has_cuts : Zone → Bool
has_cuts zone = list_any (λ r. r.kind == TYPE_NS && not (same_name r.owner zone.apex)) zone.records

-- a name owns a DNAME (RFC 6672 section 2.1)
abbrev pub has_dnames : Zone → Bool
has_dnames zone = list_any (λ r. r.kind == TYPE_DNAME) zone.records

-- the types of DNSSEC records that a reply adds beside its answer (RFC 4034)
abbrev pub is_of_dnssec : Kind → Bool
is_of_dnssec kind = kind == TYPE_DS || (kind == TYPE_RRSIG || kind == TYPE_NSEC)

-- the zone has a record of such a type
abbrev pub is_secure : Zone → Bool
is_secure zone = list_any (λ r. is_of_dnssec r.kind) zone.records

-- the last NSEC before a place among the records
abbrev pub IsLastNsec : List Record → ℕ → Option ℕ → Type 0
IsLastNsec records place None = (k : ℕ) (d : Record) → k < place → k < length records
    → (slice_index_or records k d).kind ≡ TYPE_NSEC → ⊥
IsLastNsec records place (Some last) =
    (last < place) × (last < length records) × ((d : Record) → (slice_index_or records last d).kind ≡ TYPE_NSEC)
    × ((k : ℕ) (d : Record) → last < k → k < place → k < length records
    → (slice_index_or records k d).kind ≡ TYPE_NSEC → ⊥)

-- the SOA record of the apex (RFC 1035 section 3.3.13)
abbrev pub apex_soa : Zone → Option Record
apex_soa zone = find (at_apex TYPE_SOA zone.apex) zone.records
