-- Meaning: the octets that the digest of a zone is made of, by scheme SIMPLE (RFC 8976 section 3.3.1). The records are
-- in any order.
use Rattle.std.specs.Prelude.{Bool, ◌==◌, ◌&&◌, ◌||◌, not, List, filter, flat_map}
use Rattle.dz_name.specs.Words.{Name, Kind, Octets}
use Rattle.dz_name.specs.Name.{same_name}
use Rattle.dz_name.specs.Numbers.{number_of_two}
use Rattle.dz_name.specs.declared.dns.TheConstants.{TYPE_RRSIG, TYPE_ZONEMD}
use Rattle.dz_record.specs.Record.{Record, record_octets}
use Rattle.dz_record.specs.Records.{distinct, in_order}

-- the type that an RRSIG covers, the first two octets of its RDATA (RFC 4034 section 3.1.1)
abbrev pub type_covered : Record → Kind
type_covered r = number_of_two r.rdata

-- a record isn't digested: a ZONEMD record of the apex, or an RRSIG record of the apex that covers it (section
-- 3.3.1.1). Below the apex both are records like any other (section 2.1)
abbrev pub is_left_out : Name → Record → Bool
is_left_out apex r =
    (r.kind == TYPE_ZONEMD || (r.kind == TYPE_RRSIG && type_covered r == TYPE_ZONEMD)) && same_name r.owner apex

-- the octets that are digested: every other record of the zone, duplicates once, in the order of owner name, type and
-- RDATA, each in canonical form with its own TTL (sections 3.3.1.1 and 3.3.1.2; RFC 4034 section 6)
unfoldable pub digested : Name → List Record → Octets
digested apex records = flat_map record_octets (in_order (distinct (filter (λ r. not (is_left_out apex r)) records)))
