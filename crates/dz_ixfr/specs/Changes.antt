-- Judge: what the incremental form makes of the held records, record by record (RFC 1995 section 4).
use Rattle.std.specs.Prelude.{◌≡◌, ◌↔◌, false, List, ◌∷◌, ◌++◌, map}
use Rattle.std.specs.List.{AllByRecursion, Contains, flat_map}
use Rattle.dz_record.specs.Record.{Record, same_record}
use Rattle.dz_zone.specs.Version.{Zone}
use Rattle.dz_xfr.specs.Apex.{is_apex_soa}
use Rattle.dz_ixfr.specs.Incremental.{Difference, IsIncremental, is_there}

-- a change of one record
pub data Change : Type 0 where
  deletion : Record → Change
  addition : Record → Change

-- the changes of a difference, in their order
abbrev pub changes_in : Difference → List Change
changes_in d = map deletion d.deleted ++ map addition d.added

-- the changes of all differences, in their order
abbrev pub changes_of : List Difference → List Change
changes_of differences = flat_map changes_in differences

-- the change doesn't delete the record
abbrev pub IsNotDeleted : Record → Change → Type 0
IsNotDeleted r (deletion s) = same_record r s ≡ false
IsNotDeleted r (addition s) = Unit {0}

-- the change doesn't add the record
abbrev pub IsNotAdded : Record → Change → Type 0
IsNotAdded r (deletion s) = Unit {0}
IsNotAdded r (addition s) = same_record r s ≡ false

-- the change neither deletes nor adds the record
abbrev pub IsNotNamed : Record → Change → Type 0
IsNotNamed r change = IsNotDeleted r change × IsNotAdded r change

-- each added record that isn't deleted again is there, each deleted one that isn't added again is gone, and every
-- other record but the SOA remains as it was
pub record Changes (held : Zone) (differences : List Difference) (zone : List Record) : Type 0 where
  pub added : (r : Record) (before behind : List Change) → changes_of differences ≡ before ++ addition r ∷ behind
      → AllByRecursion (IsNotDeleted r) behind → Contains zone r
  pub deleted : (r : Record) (before behind : List Change) → changes_of differences ≡ before ++ deletion r ∷ behind
      → AllByRecursion (IsNotAdded r) behind → is_there r zone ≡ false
  pub other : (r : Record) → is_apex_soa held.apex r ≡ false → AllByRecursion (IsNotNamed r) (changes_of differences)
      → Contains zone r ↔ Contains held.records r

-- the changes of every whole form are as `Changes` says
abbrev pub ChangesAll : Type 0
ChangesAll = (held : Zone) (records zone : List Record) (form : IsIncremental held records zone)
    → Changes held form.differences zone
