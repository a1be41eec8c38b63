-- Meaning: the incremental form read record by record. The law `incremental_form` says that the reading says of every
-- list of records what holds of it as a whole.
use Rattle.std.specs.Prelude.{ℕ, ◌==◌, List, if◌then◌else◌}
use Rattle.std.specs.Str.{bytes_eq}
use Rattle.dz_name.specs.Words.{Name}
use Rattle.dz_record.specs.Record.{Record}
use Rattle.dz_record.specs.Records.{insertion}
use Rattle.dz_zone.specs.Version.{Zone}
use Rattle.dz_xfr.specs.declared.fault.ShapeFault.TheVariants.{NotSoaFirst, SerialGap, DeleteMissing, AddPresent}
use Rattle.dz_xfr.specs.Apex.{is_apex_soa, serial_of, held_serial}
use Rattle.dz_xfr.specs.Place.{Place, amid, ended, failed, read, said}
use Rattle.dz_xfr.specs.Stands.{Reading}
use Rattle.dz_ixfr.specs.Incremental.{is_there, without, others}

-- amid the form, with what is left of the zone: nothing was read, and the zone has this serial; the first SOA was
-- read; among deleted records; among those added after an SOA of this serial
pub data Amid : Type 0 where
  nothing : ℕ → List Record → Amid
  begun : Record → ℕ → List Record → Amid
  deleting : Record → List Record → Amid
  adding : Record → ℕ → List Record → Amid

-- the place after one more record
abbrev pub one : Name → Amid → Record → Place Amid
one apex (nothing serial zone) r = if is_apex_soa apex r then amid (begun r serial zone) else failed NotSoaFirst
one apex (begun first serial zone) r =
    if is_apex_soa apex r then (if serial_of r == serial then amid (deleting first zone) else failed SerialGap)
    else failed SerialGap
one apex (deleting first zone) r =
    if is_apex_soa apex r then amid (adding first (serial_of r) zone)
    else if is_there r zone then amid (deleting first (without r zone))
    else failed DeleteMissing
one apex (adding first serial zone) r =
    if is_apex_soa apex r
    then (if serial == serial_of first
    then (if bytes_eq r.rdata first.rdata then ended (insertion first zone) else failed SerialGap)
    else (if serial_of r == serial then amid (deleting first zone) else failed SerialGap))
    else if is_there r zone then failed AddPresent
    else amid (adding first serial (insertion r zone))

-- the place before the first record
abbrev pub start : Zone → Amid
start held = nothing (held_serial held) (others held)

-- the place after these records
abbrev pub place_of : Zone → List Record → Place Amid
place_of held records = read (one held.apex) (amid (start held)) records

-- what the reading says of these records
abbrev pub reading_of : Zone → List Record → Reading
reading_of held records = said (place_of held records)
