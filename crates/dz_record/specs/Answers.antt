-- Answer: what the maker of a record answers.
use Rattle.std.specs.Prelude.{⊤, ◌≡◌, Result, Ok, Err}
use Rattle.dz_record.specs.declared.rr.RrFault.{RrFault}
use Rattle.dz_record.specs.declared.rr.RrError.{RrError}
use Rattle.dz_record.specs.declared.rr.RrError.TheVariants as errors
use Rattle.dz_record.specs.Record.{Record}

-- what a call made: this record, or why there is none; nothing is known when it runs out of memory
abbrev pub Makes : Result Record RrError → Result Record RrFault → Type 0
Makes (Ok r) record_is = record_is ≡ Ok r
Makes (Err (errors.Fault fault)) record_is = record_is ≡ Err fault
Makes (Err errors.OutOfMemory) record_is = ⊤
