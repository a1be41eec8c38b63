-- Meaning: the SOA records of an apex and their serials (RFC 1035 section 3.3.13).
use Rattle.std.specs.Prelude.{ℕ, ◌-◌, Bool, length, drop, Option, Some, None, if◌then◌else◌}
use Rattle.std.specs.Option.{option_map_or}
use Rattle.dz_name.specs.Words.{Name}
use Rattle.dz_name.specs.declared.dns.TheConstants.{TYPE_SOA}
use Rattle.dz_record.specs.Record.{Record, soa_numbers}
use Rattle.dz_zone.specs.Valid.{at_apex}
use Rattle.dz_zone.specs.Version.{Zone, apex_soa}

-- a record is an SOA of the apex (RFC 1034 section 4.2.1)
abbrev pub is_apex_soa : Name → Record → Bool
is_apex_soa apex r = at_apex TYPE_SOA apex r

-- the serial of an SOA, whose numbers are the last 20 octets of its RDATA
abbrev pub serial_of : Record → ℕ
serial_of r = (soa_numbers (drop (length r.rdata - 20) r.rdata)).serial

-- the serial of a record, where it is an SOA of the apex
abbrev pub apex_serial : Name → Record → Option ℕ
apex_serial apex r = if is_apex_soa apex r then Some (serial_of r) else None

-- the serial of a zone: that of the SOA of its apex
abbrev pub held_serial : Zone → ℕ
held_serial zone = option_map_or serial_of (apex_soa zone) 0
