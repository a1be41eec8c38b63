-- Meaning: what the ZONEMD records of a zone say of it (RFC 8976 section 4). The records of the zone are in any order.
use Rattle.std.specs.Prelude.{ℕ, Bool, false, ◌+◌, ◌==◌, ◌&&◌, List, length, filter, count_by, if◌then◌else◌}
use Rattle.std.specs.List.{list_any}
use Rattle.std.specs.Option.{option_map_or}
use Rattle.std.specs.Str.{bytes_eq}
use Rattle.dz_name.specs.Words.{Name, Octets}
use Rattle.dz_name.specs.Name.{same_name}
use Rattle.dz_name.specs.declared.dns.TheConstants.{TYPE_ZONEMD}
use Rattle.dz_record.specs.Record.{Record, soa_of}
use Rattle.dz_zonemd.specs.Digested.{digested}
use Rattle.dz_zonemd.specs.Zonemd.{serial_in, digest_in, is_twin, known_algorithm, hash_by, is_by, is_supported}
use Rattle.dz_zonemd.specs.declared.algorithm.Algorithm.{Algorithm}
use Rattle.dz_zonemd.specs.declared.algorithm.Algorithm.TheVariants.{Sha384, Sha512}
use Rattle.dz_zonemd.specs.declared.acceptance.Standing.{Standing}
use Rattle.dz_zonemd.specs.declared.acceptance.Standing.TheVariants.{Absent, Unsupported, Good, Bad}

-- a ZONEMD record of the apex; one below it says nothing (section 2.1)
abbrev pub is_zonemd : Name → Record → Bool
is_zonemd apex r = r.kind == TYPE_ZONEMD && same_name r.owner apex

-- the ZONEMD records of the apex
abbrev pub zonemds : Name → List Record → List Record
zonemds apex records = filter (is_zonemd apex) records

-- an SOA of the apex with this serial (sections 2.2.1 and 4)
abbrev pub serial_is : Name → ℕ → Record → Bool
serial_is apex serial r = option_map_or (λ soa. soa.serial == serial) (soa_of r) false && same_name r.owner apex

-- some record is an SOA with this serial, which says that the serial is the zone's, since a zone has one SOA
abbrev pub is_serial : Name → List Record → ℕ → Bool
is_serial apex records serial = list_any (serial_is apex serial) records

-- the digest in a record is that of these octets by its algorithm
abbrev pub is_digest : Octets → Record → Bool
is_digest octets r =
    option_map_or (λ algorithm. bytes_eq (digest_in r) (hash_by algorithm octets)) (known_algorithm r) false

-- no other ZONEMD record of the apex has its scheme and algorithm (section 2.5: each has its own)
abbrev pub is_alone : Name → List Record → Record → Bool
is_alone apex records r = count_by (is_twin r) (zonemds apex records) == 1

-- a ZONEMD record of the apex that verifies the zone (section 4)
abbrev pub verifies : Name → List Record → Record → Bool
verifies apex records r =
    is_supported r
    && (is_alone apex records r && (is_serial apex records (serial_in r) && is_digest (digested apex records) r))

-- how often a zone with these ZONEMD records at its apex is hashed by an algorithm at most: once where one record
-- alone is of the algorithm, and otherwise never (section 4)
abbrev pub hashes_by : Algorithm → List Record → ℕ
hashes_by algorithm found = if count_by (is_by algorithm) found == 1 then 1 else 0

-- how often it is hashed at most
abbrev pub hashes : List Record → ℕ
hashes found = hashes_by Sha384 found + hashes_by Sha512 found

-- what the ZONEMD records of a zone say of it (section 4)
unfoldable pub standing : Name → List Record → Standing
standing apex records =
    if length (zonemds apex records) == 0 then Absent
    else if list_any (verifies apex records) (zonemds apex records) then Good
    else if list_any is_supported (zonemds apex records) then Bad
    else Unsupported
