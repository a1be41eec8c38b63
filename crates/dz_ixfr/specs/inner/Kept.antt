-- Inner: how an assembler keeps a part of an incremental form.
use Rattle.std.specs.Prelude.{⊤, ◌≡◌, ℕ, true, List}
use Rattle.dz_name.specs.Words.{Name}
use Rattle.dz_record.specs.Record.{Record}
use Rattle.dz_zone.specs.Version.{Zone}
use Rattle.dz_xfr.specs.Apex.{is_apex_soa, serial_of}
use Rattle.dz_xfr.specs.Place.{Place, amid, ended}
use Rattle.dz_ixfr.specs.declared.differences.Stage.{Stage}
use Rattle.dz_ixfr.specs.declared.differences.Stage.TheVariants.{Begun, Deleting, Adding, Ended}
use Rattle.dz_ixfr.specs.Incremental.{HasNoSoa}
use Rattle.dz_ixfr.specs.Reading.{Amid, begun, deleting, adding, place_of}

-- the place of a stage, with the first SOA and the records that are left, or those of the zone at the end
abbrev pub place_in : Stage → Record → List Record → Place Amid
place_in (Begun serial) first records = amid (begun first serial records)
place_in Deleting first records = amid (deleting first records)
place_in (Adding serial) first records = amid (adding first serial records)
place_in Ended first records = ended records

-- amid the form no record that is left is an SOA of the apex
abbrev pub HasNoneAmid : Name → Stage → List Record → Type 0
HasNoneAmid apex (Begun serial) records = HasNoSoa apex records
HasNoneAmid apex Deleting records = HasNoSoa apex records
HasNoneAmid apex (Adding serial) records = HasNoSoa apex records
HasNoneAmid apex Ended records = ⊤

-- what is kept once these records were fed
pub record IsKept (held : Zone) (fed : List Record) (apex : Name) (goal : ℕ) (first : Record) (stage : Stage)
    (records : List Record) : Type 0 where
  pub apex_is : apex ≡ held.apex
  pub goal_is : goal ≡ serial_of first
  pub opens : is_apex_soa held.apex first ≡ true
  pub no_soa : HasNoneAmid held.apex stage records
  pub place : place_of held fed ≡ place_in stage first records

-- the next SOA closes the form
abbrev pub IsAtEnd : Zone → List Record → Type 0
IsAtEnd held fed =
    (first : Record) × (standing : List Record) × (place_of held fed ≡ amid (adding first (serial_of first) standing))
