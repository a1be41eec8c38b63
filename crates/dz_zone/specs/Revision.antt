-- Meaning: the records of a zone under changes (RFC 1995 section 4).
use Rattle.std.specs.Prelude.{Bool, not, List, filter}
use Rattle.std.specs.List.{list_any}
use Rattle.dz_name.specs.declared.dns.TheConstants.{TYPE_SOA}
use Rattle.dz_record.specs.Record.{Record, same_record}
use Rattle.dz_zone.specs.Valid.{at_apex}
use Rattle.dz_zone.specs.Version.{Zone}

-- the zone has a record that is the same but for its TTL
abbrev pub is_there : Record → List Record → Bool
is_there r zone = list_any (same_record r) zone

-- the records of the zone without those that are the same as this one but for their TTL
abbrev pub without : Record → List Record → List Record
without r zone = filter (λ s. not (same_record r s)) zone

-- a version, and the records that changes have left of it and added to it, in canonical order
pub record Revised : Type 0 where
  pub base : Zone
  pub records : List Record

-- a version before the first change: its records but the SOA of the apex, which differences replace
abbrev pub unchanged : Zone → Revised
unchanged zone = record { base = zone; records = filter (λ r. not (at_apex TYPE_SOA zone.apex r)) zone.records }

-- the same version with these records
abbrev pub with_records : Revised → List Record → Revised
with_records revised records = record { base = revised.base; records = records }
