-- Answer: what a reading record by record answers.
use Rattle.std.specs.Prelude.{⊤, List, Result, Ok, Err}
use Rattle.dz_record.specs.Record.{Record}
use Rattle.dz_xfr.specs.declared.fault.Progress.{Progress}
use Rattle.dz_xfr.specs.declared.fault.Progress.TheVariants.{More, Ended}
use Rattle.dz_xfr.specs.declared.fault.FeedError.{FeedError}
use Rattle.dz_xfr.specs.declared.fault.FeedError.TheVariants.{Shape, OutOfMemory}
use Rattle.dz_xfr.specs.Stands.{Reading, more, complete, misfit}

-- the answer says what holds of the records; running out of memory says nothing
abbrev pub Says : Result Progress FeedError → (Reading → Type 0) → Type 0
Says (Ok More) Is = Is more
Says (Ok Ended) Is = (zone : List Record) × Is (complete zone)
Says (Err (Shape fault)) Is = Is (misfit fault)
Says (Err OutOfMemory) Is = ⊤
