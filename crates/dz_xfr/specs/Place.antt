-- Meaning: a form read record by record. That a reading says of a list of records what holds of it as a whole is a law
-- of each form.
use Rattle.std.specs.Prelude.{List}
use Rattle.std.specs.List.{fold}
use Rattle.dz_record.specs.Record.{Record}
use Rattle.dz_xfr.specs.declared.fault.ShapeFault.{ShapeFault}
use Rattle.dz_xfr.specs.declared.fault.ShapeFault.TheVariants.{AfterEnd}
use Rattle.dz_xfr.specs.Stands.{Reading, more, complete, misfit}

-- where a reading is: amid the form; after its last record, with the zone's records; or after a record that doesn't
-- fit
pub data Place (X : Type 0) : Type 0 where
  amid : X → Place X
  ended : List Record → Place X
  failed : ShapeFault → Place X

-- the place after one more record, where `one` says what it is amid the form
abbrev pub behind : {X : Type 0} → (X → Record → Place X) → Place X → Record → Place X
behind one (amid x) r = one x r
behind one (ended zone) r = failed AfterEnd
behind one (failed fault) r = failed fault

-- the place after all of these records
abbrev pub read : {X : Type 0} → (X → Record → Place X) → Place X → List Record → Place X
read one place records = fold (behind one) place records

-- what a place says of the records that led to it
abbrev pub said : {X : Type 0} → Place X → Reading
said (amid x) = more
said (ended zone) = complete zone
said (failed fault) = misfit fault
