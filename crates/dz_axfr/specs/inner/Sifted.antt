-- Inner: records of which those that are the same are kept once.
use Rattle.std.specs.Prelude.{⊤, ◌≡◌, Bool, List, Option, Some, None}
use Rattle.std.specs.List.{list_any}
use Rattle.dz_record.specs.Record.{Record, same_record}

-- one of the records is the same as this one
abbrev pub has_same : Record → List Record → Bool
has_same r records = list_any (same_record r) records

-- the records that were seen are those that are kept
abbrev pub IsKnown : List Record → List Record → Type 0
IsKnown seen kept = (r : Record) → has_same r seen ≡ has_same r kept

-- the same, once they are many
abbrev pub AreKnown : Option (List Record) → List Record → Type 0
AreKnown None kept = ⊤
AreKnown (Some seen) kept = IsKnown seen kept
