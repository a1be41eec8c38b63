-- Meaning: the whole form read record by record. The law `whole_form` says that the reading says of every list of
-- records what holds of it as a whole.
use Rattle.std.specs.Prelude.{List, [], ◌∷◌, ◌++◌, if◌then◌else◌}
use Rattle.std.specs.Str.{bytes_eq}
use Rattle.dz_name.specs.Words.{Name}
use Rattle.dz_record.specs.Record.{Record}
use Rattle.dz_record.specs.Records.{distinct}
use Rattle.dz_xfr.specs.declared.fault.ShapeFault.TheVariants.{NotSoaFirst, SerialGap}
use Rattle.dz_xfr.specs.Apex.{is_apex_soa}
use Rattle.dz_xfr.specs.Place.{Place, amid, ended, failed, read, said}
use Rattle.dz_xfr.specs.Stands.{Reading}

-- amid the form: nothing was read, or the first SOA and a part of the body
pub data Amid : Type 0 where
  nothing : Amid
  opened : Record → List Record → Amid

-- the place after one more record
abbrev pub one : Name → Amid → Record → Place Amid
one apex nothing r = if is_apex_soa apex r then amid (opened r []) else failed NotSoaFirst
one apex (opened first body) r =
    if is_apex_soa apex r
    then (if bytes_eq r.rdata first.rdata then ended (distinct (first ∷ body)) else failed SerialGap)
    else amid (opened first (body ++ r ∷ []))

-- the place after these records
abbrev pub place_of : Name → List Record → Place Amid
place_of apex records = read (one apex) (amid nothing) records

-- what the reading says of these records
abbrev pub reading_of : Name → List Record → Reading
reading_of apex records = said (place_of apex records)
