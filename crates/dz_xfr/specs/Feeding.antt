-- Meaning: what an assembler answers about all records that it was fed.
use Rattle.std.specs.Prelude.{List, Result, Ok, Err}
use Rattle.dz_record.specs.Record.{Record}
use Rattle.dz_xfr.specs.declared.fault.Progress.{Progress}
use Rattle.dz_xfr.specs.declared.fault.FeedError.{FeedError}
use Rattle.dz_xfr.specs.Stands.{Forms, Blaming, more, Stands}

-- more is to come after these records
abbrev pub IsOpen : Forms → Blaming → List Record → Type 0
IsOpen Form Blames records = Stands Form Blames records more

-- what an assembler says beside itself, where it is taken and given back
abbrev pub progress_of : {A : Type 0} → Result (A × Progress) FeedError → Result Progress FeedError
progress_of (Ok r) = Ok r.1
progress_of (Err e) = Err e
