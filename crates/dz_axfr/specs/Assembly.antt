-- Meaning: an assembler of the whole form: the apex, and all records that it was fed.
use Rattle.std.specs.Prelude.{List}
use Rattle.dz_name.specs.Words.{Name}
use Rattle.dz_record.specs.Record.{Record}

-- an assembler of the whole form: the apex of the zone, and the records that it was fed
pub record Assembly : Type 0 where
  pub apex : Name
  pub fed : List Record
