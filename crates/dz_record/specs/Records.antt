-- Meaning: lists of records (RFC 2181 section 5, RFC 4034 section 6.3).
use Rattle.std.specs.Prelude.{List, [], ◌∷◌, filter, not, if◌then◌else◌}
use Rattle.std.specs.Ordering.{is_gt}
use Rattle.dz_record.specs.Record.{Record, record_order, same_record}

-- the records without duplicates: of those that are the same the first is kept (RFC 2181 section 5)
unfoldable pub distinct : List Record → List Record
distinct [] = []
distinct (r ∷ rs) = r ∷ filter (λ s. not (same_record r s)) (distinct rs)

-- a record inserted before the first that doesn't come before it
unfoldable pub insertion : Record → List Record → List Record
insertion r [] = r ∷ []
insertion r (s ∷ ss) = if is_gt (record_order r s) then s ∷ insertion r ss else r ∷ s ∷ ss

-- the records in the order of owner, type and RDATA; those that tie keep their order
unfoldable pub in_order : List Record → List Record
in_order [] = []
in_order (r ∷ rs) = insertion r (in_order rs)
