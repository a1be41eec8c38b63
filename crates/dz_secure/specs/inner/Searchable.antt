-- Inner: RRSIG records are in the order of what they cover.
use Rattle.std.specs.Prelude.{List, take}
use Rattle.std.specs.List.Sorted.{IsNonDecreasingBy}
use Rattle.std.specs.Ordering.{ordering_index}
use Rattle.dz_name.specs.Words.{Octets}
use Rattle.dz_name.specs.Name.{label_order}
use Rattle.dz_record.specs.Record.{Record}

-- records in the order of the types that they cover, so that any type can be searched for
abbrev pub AreSearchable : List Record → Type 0
AreSearchable records =
    (octets : Octets) → IsNonDecreasingBy (λ r. ordering_index (label_order (take 2 r.rdata) octets)) records
