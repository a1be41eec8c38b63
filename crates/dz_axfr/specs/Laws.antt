-- Judge: what the reading of the whole form says is what holds of a list as a whole.
use Rattle.std.specs.Prelude.{◌≡◌, List}
use Rattle.dz_name.specs.Words.{Name}
use Rattle.dz_record.specs.Record.{Record}
use Rattle.dz_xfr.specs.Stands.{Stands, Reading}
use Rattle.dz_axfr.specs.Reading.{reading_of}
use Rattle.dz_axfr.specs.Whole.{IsWhole, Blames}

-- what the reading says of a list holds of it
abbrev pub ReadingStands : Type 0
ReadingStands = (apex : Name) (records : List Record) → Stands (IsWhole apex) Blames records (reading_of apex records)

-- what holds of a list is what the reading says
abbrev pub NothingElse : Type 0
NothingElse = (apex : Name) (records : List Record) (reading : Reading) → Stands (IsWhole apex) Blames records reading
    → reading ≡ reading_of apex records
