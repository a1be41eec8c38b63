-- Meaning: an assembler of the incremental form: the held zone, and all records that it was fed.
use Rattle.std.specs.Prelude.{List}
use Rattle.dz_record.specs.Record.{Record}
use Rattle.dz_zone.specs.Version.{Zone}

-- an assembler of the incremental form: the held zone, and the records that it was fed
pub record Assembly : Type 0 where
  pub held : Zone
  pub fed : List Record
