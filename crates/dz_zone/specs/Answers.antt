-- Answer: what the check of a zone's records answers.
use Rattle.std.specs.Prelude.{◌≡◌, List, Some, None, Result, Ok, Err, ⊤}
use Rattle.dz_name.specs.Words.{Name}
use Rattle.dz_record.specs.Record.{Record}
use Rattle.dz_record.specs.Records.{distinct}
use Rattle.dz_zone.specs.Valid.{fault_of}
use Rattle.dz_zone.specs.declared.fault.ZoneError.{ZoneError}
use Rattle.dz_zone.specs.declared.fault.ZoneError.TheVariants.{Fault, OutOfMemory}
use Rattle.dz_zone.specs.Version.{Zone, zone_of}

-- what `check` answers: that zone, or the first fault of its records; out of memory tells nothing
abbrev pub IsChecked : Name → List Record → Result Zone ZoneError → Type 0
IsChecked apex records (Ok zone) =
    (fault_of apex (distinct records) ≡ None) × (zone ≡ zone_of apex records)
IsChecked apex records (Err (Fault fault)) = fault_of apex (distinct records) ≡ Some fault
IsChecked apex records (Err OutOfMemory) = ⊤
