-- Meaning: what is wrong with the records of a zone (RFC 1034 section 3.6.2, RFC 1035 section 5.2, RFC 2181 sections
-- 6.1 and 10.1). The records are in any order, and no two of them are the same.
use Rattle.std.specs.Prelude.{Bool, false, ◌==◌, ◌&&◌, ◌||◌, not, nat_lt, List, [], ◌∷◌, length, Option, Some, None}
use Rattle.std.specs.Prelude.{if◌then◌else◌}
use Rattle.std.specs.List.{list_any, count_by}
use Rattle.dz_name.specs.Words.{Name, Kind}
use Rattle.dz_name.specs.Name.{same_name, is_within}
use Rattle.dz_name.specs.declared.dns.TheConstants.{TYPE_CNAME, TYPE_DNAME, TYPE_NS, TYPE_NSEC, TYPE_RRSIG, TYPE_SOA}
use Rattle.dz_name.specs.declared.dns.TheConstants.{ZONE_RECORDS}
use Rattle.dz_record.specs.Record.{Record}
use Rattle.dz_zone.specs.declared.fault.ZoneFault.{ZoneFault}
use Rattle.dz_zone.specs.declared.fault.ZoneFault.TheVariants.{NoSoa, SoaTwice, SoaBelow, NoNs, OutOfZone, CnameBeside}
use Rattle.dz_zone.specs.declared.fault.ZoneFault.TheVariants.{CnameTwice, DnameTwice, TooMany}

-- some element of a list and a later one pass the test
unfoldable pub some_two : {X : Type 0} → (X → X → Bool) → List X → Bool
some_two test [] = false
some_two test (x ∷ xs) = list_any (test x) xs || some_two test xs

-- a record of the apex of this type
abbrev pub at_apex : Kind → Name → Record → Bool
at_apex kind apex r = r.kind == kind && same_name r.owner apex

-- the apex owns no SOA (RFC 1035 section 5.2)
abbrev pub no_soa : Name → List Record → Bool
no_soa apex records = not (list_any (at_apex TYPE_SOA apex) records)

-- the apex owns more than one SOA (RFC 2181 section 6.1)
abbrev pub soa_twice : Name → List Record → Bool
soa_twice apex records = nat_lt 1 (count_by (at_apex TYPE_SOA apex) records)

-- an owner other than the apex has an SOA
abbrev pub soa_below : Name → List Record → Bool
soa_below apex records = list_any (λ r. r.kind == TYPE_SOA && not (same_name r.owner apex)) records

-- the apex owns no NS (RFC 2181 section 6.1)
abbrev pub no_ns : Name → List Record → Bool
no_ns apex records = not (list_any (at_apex TYPE_NS apex) records)

-- an owner is neither the apex nor below it; glue, and what a cut occludes, is below it like the rest
abbrev pub out_of_zone : Name → List Record → Bool
out_of_zone apex records = list_any (λ r. not (is_within r.owner apex)) records

-- types that may be beside a CNAME (RFC 4035 section 2.5)
abbrev pub is_beside_any : Kind → Bool
is_beside_any kind = kind == TYPE_RRSIG || kind == TYPE_NSEC

-- a CNAME, and a record of a type that may not be beside one
abbrev pub is_cname_and_other : Record → Record → Bool
is_cname_and_other r s = r.kind == TYPE_CNAME && not (s.kind == TYPE_CNAME || is_beside_any s.kind)

-- two records of one owner, one of them a CNAME and the other of a type that may not be beside it
unfoldable pub clash : Record → Record → Bool
clash r s = same_name r.owner s.owner && (is_cname_and_other r s || is_cname_and_other s r)

-- an owner of a CNAME also owns a type other than RRSIG and NSEC (RFC 1034 section 3.6.2, RFC 4035 section 2.5)
abbrev pub cname_beside : List Record → Bool
cname_beside records = some_two clash records

-- two records of one owner and of this type
unfoldable pub both_are : Kind → Record → Record → Bool
both_are kind r s = same_name r.owner s.owner && (r.kind == kind && s.kind == kind)

-- an owner has more than one record of this type (RFC 2181 section 10.1 for CNAME, RFC 6672 section 2.4 for DNAME)
abbrev pub owned_twice : Kind → List Record → Bool
owned_twice kind records = some_two (both_are kind) records

-- there are more records than a zone may have
abbrev pub too_many : List Record → Bool
too_many records = nat_lt ZONE_RECORDS (length records)

-- the first fault that holds
unfoldable pub fault_of : Name → List Record → Option ZoneFault
fault_of apex records =
    if no_soa apex records then Some NoSoa
    else if soa_twice apex records then Some SoaTwice
    else if soa_below apex records then Some SoaBelow
    else if no_ns apex records then Some NoNs
    else if out_of_zone apex records then Some OutOfZone
    else if cname_beside records then Some CnameBeside
    else if owned_twice TYPE_CNAME records then Some CnameTwice
    else if owned_twice TYPE_DNAME records then Some DnameTwice
    else if too_many records then Some TooMany
    else None
