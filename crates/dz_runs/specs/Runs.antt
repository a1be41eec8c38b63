-- Meaning: the records of an owner, and those of an owner and a type. A zone is a list of records in any order.
use Rattle.std.specs.Prelude.{◌≡◌, ℕ, Bool, true, false, ◌==◌, ◌&&◌, List, filter}
use Rattle.std.specs.List.{list_any}
use Rattle.std.specs.List.Sorted.{IsPartitionPoint}
use Rattle.std.specs.Ordering.{is_lt}
use Rattle.dz_name.specs.Words.{Name, Kind}
use Rattle.dz_name.specs.Name.{same_name, is_within, canonical_order}
use Rattle.dz_record.specs.Record.{Record}
use Rattle.dz_record.specs.Records.{in_order}

-- the records of a type; of one owner they are an RRset (RFC 2181 section 5)
abbrev pub of_type : Kind → List Record → List Record
of_type kind rs = filter (λ r. r.kind == kind) rs

-- the records of an owner, in canonical order
abbrev pub records_of : List Record → Name → List Record
records_of zone name = in_order (filter (λ r. same_name r.owner name) zone)

-- a name owns a record of a type
abbrev pub owns : List Record → Kind → Name → Bool
owns zone kind name = list_any (λ r. r.kind == kind && same_name r.owner name) zone

-- a name exists where it, or a name below it, owns a record (RFC 4592 section 2.2.2)
abbrev pub exists : List Record → Name → Bool
exists zone name = list_any (λ r. is_within r.owner name) zone

-- in a zone kept in canonical order this many records precede those of a name: they come before it, and no other does
abbrev pub IsPlaceOf : Name → List Record → ℕ → Type 0
IsPlaceOf name zone place =
    IsPartitionPoint (λ r. is_lt (canonical_order r.owner name) ≡ true)
    (λ r. is_lt (canonical_order r.owner name) ≡ false) zone place
