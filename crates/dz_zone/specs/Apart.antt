-- Meaning: the records of a version of a zone that another version hasn't, the TTL being compared too.
use Rattle.std.specs.Prelude.{Bool, not, List, filter}
use Rattle.std.specs.List.{list_any}
use Rattle.std.specs.Ordering.{is_eq}
use Rattle.dz_record.specs.Record.{Record, full_order}

-- one of the others is the same record in all fields, the TTL included
abbrev pub is_among : List Record → Record → Bool
is_among others r = list_any (λ s. is_eq (full_order r s)) others

-- the records that the others haven't
abbrev pub missing_in : List Record → List Record → List Record
missing_in others records = filter (λ r. not (is_among others r)) records
