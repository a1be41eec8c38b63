-- Meaning: the places of records in a zone that is kept in order.
use Rattle.std.specs.Prelude.{◌≡◌, ℕ, ◌≤◌, List, true, false, length}
use Rattle.std.specs.List.Sorted.{IsNonDecreasingBy, IsPartitionPoint}
use Rattle.std.specs.Ordering.{nat_cmp, ordering_then, is_lt, is_le}
use Rattle.std.specs.declared.cmp.Ordering.{Ordering}
use Rattle.dz_name.specs.Words.{Name, Kind}
use Rattle.dz_name.specs.Name.{canonical_order}
use Rattle.dz_record.specs.Record.{Record}
use Rattle.dz_runs.specs.Runs.{records_of}

-- where a record comes in relation to an owner
abbrev pub from_owner : Name → Record → Ordering
from_owner name r = canonical_order r.owner name

-- where a record comes in relation to an owner and a type
abbrev pub from_key : Name → Kind → Record → Ordering
from_key name kind r = ordering_then (canonical_order r.owner name) (nat_cmp r.kind kind)

-- the records before a place come before what is looked for, and no other does
abbrev pub IsBegin : (Record → Ordering) → List Record → ℕ → Type 0
IsBegin seen zone i = IsPartitionPoint (λ r. is_lt (seen r) ≡ true) (λ r. is_lt (seen r) ≡ false) zone i

-- the records before a place come before what is looked for or are it, and no other does
abbrev pub IsEnd : (Record → Ordering) → List Record → ℕ → Type 0
IsEnd seen zone i = IsPartitionPoint (λ r. is_le (seen r) ≡ true) (λ r. is_le (seen r) ≡ false) zone i

-- the records of an owner, in order, and the place where they begin or would begin
pub record IsNodeOf (zone : List Record) (name : Name) (place : ℕ) (records : List Record) : Type 0 where
  pub within : place ≤ length zone
  pub point : IsBegin (from_owner name) zone place
  pub records_are : records ≡ records_of zone name
  pub kinds : IsNonDecreasingBy (λ r. r.kind) records
