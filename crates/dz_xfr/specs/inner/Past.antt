-- Inner: what an assembler was fed, piece by piece; no memory holds it.
use Rattle.std.specs.Prelude.{List, [], ◌∷◌, ◌++◌}
use Rattle.dz_record.specs.Record.{Record}
use Rattle.dz_xfr.specs.declared.fed.Past.{Past}
use Rattle.dz_xfr.specs.declared.fed.Past.TheVariants.{Nothing, One', All'}

-- all records that were fed, in their order
abbrev pub records_of : Past → List Record
records_of Nothing = []
records_of (One' mark before last) = records_of before ++ last.value ∷ []
records_of (All' mark before last) = records_of before ++ last.value.items
