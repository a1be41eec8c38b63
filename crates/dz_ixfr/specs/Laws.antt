-- Judge: what the reading of the incremental form says is what holds of a list as a whole.
use Rattle.std.specs.Prelude.{◌≡◌, List}
use Rattle.dz_record.specs.Record.{Record}
use Rattle.dz_zone.specs.Version.{Zone}
use Rattle.dz_xfr.specs.Stands.{Stands, Reading}
use Rattle.dz_ixfr.specs.Incremental.{IsIncremental, Blames}
use Rattle.dz_ixfr.specs.Reading.{reading_of}

-- what the reading says of a list holds of it
abbrev pub ReadingStands : Type 0
ReadingStands = (held : Zone) (records : List Record)
    → Stands (IsIncremental held) (Blames held.apex) records (reading_of held records)

-- what holds of a list is what the reading says
abbrev pub NothingElse : Type 0
NothingElse = (held : Zone) (records : List Record) (reading : Reading)
    → Stands (IsIncremental held) (Blames held.apex) records reading → reading ≡ reading_of held records
