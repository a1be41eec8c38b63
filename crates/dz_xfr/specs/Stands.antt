-- Meaning: how a list of records compares with the lists that are whole forms of a zone: with them alone, and not with
-- how a list is read (RFC 5936 section 2.2, RFC 1995 section 4).
use Rattle.std.specs.Prelude.{◌≡◌, List, [], ◌∷◌, ◌++◌}
use Rattle.dz_record.specs.Record.{Record}
use Rattle.dz_xfr.specs.declared.fault.ShapeFault.{ShapeFault}
use Rattle.dz_xfr.specs.declared.fault.ShapeFault.TheVariants.{AfterEnd}

-- which lists are whole forms, of which records of a zone
abbrev pub Forms : Type 1
Forms = List Record → List Record → Type 0

-- the fault of a record after those before it, where no whole form goes on with it
abbrev pub Blaming : Type 1
Blaming = List Record → Record → ShapeFault → Type 0

-- the list is a whole form of some zone
abbrev pub IsComplete : Forms → List Record → Type 0
IsComplete Form records = (zone : List Record) × Form records zone

-- some whole form begins with the list
abbrev pub GoesOn : Forms → List Record → Type 0
GoesOn Form records = (rest : List Record) × IsComplete Form (records ++ rest)

-- what can be said of a list: more is to come; it is a whole form of these records; a record doesn't fit
pub data Reading : Type 0 where
  more : Reading
  complete : List Record → Reading
  misfit : ShapeFault → Reading

-- the list is a whole form of a zone; a whole form is followed by further records; or it is the beginning of a whole
-- form and none itself. Or no whole form goes on with some record, and the fault is that of the first such record
pub data Stands (Form : Forms) (Blames : Blaming) (records : List Record) : Reading → Type 0 where
  is_complete : {zone : List Record} → Form records zone → Stands Form Blames records (complete zone)
  after_end : (front rest : List Record) (r : Record) → records ≡ front ++ r ∷ rest → IsComplete Form front
      → Stands Form Blames records (misfit AfterEnd)
  is_front : GoesOn Form records → ¬ (IsComplete Form records) → Stands Form Blames records more
  is_misfit : (front rest : List Record) (r : Record) {fault : ShapeFault} → records ≡ front ++ r ∷ rest
      → GoesOn Form front → ¬ (IsComplete Form front)
      → ¬ (GoesOn Form (front ++ r ∷ [])) → Blames front r fault → Stands Form Blames records (misfit fault)
