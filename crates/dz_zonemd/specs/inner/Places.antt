-- Inner: where the ZONEMD records of an apex are in a zone in order.
use Rattle.std.specs.Prelude.{◌≡◌, ℕ, List, true, false}
use Rattle.std.specs.Ordering.{nat_cmp, ordering_then, is_lt, is_le}
use Rattle.std.specs.List.Sorted.{IsPartitionPoint}
use Rattle.std.specs.declared.cmp.Ordering.{Ordering}
use Rattle.dz_name.specs.Words.{Name}
use Rattle.dz_name.specs.Name.{canonical_order}
use Rattle.dz_name.specs.declared.dns.TheConstants.{TYPE_ZONEMD}
use Rattle.dz_record.specs.Record.{Record}

-- where a record is, seen from the ZONEMD records of an apex
abbrev pub from_zonemds : Name → Record → Ordering
from_zonemds apex r = ordering_then (canonical_order r.owner apex) (nat_cmp r.kind TYPE_ZONEMD)

-- the records before a place come before the ZONEMD records of the apex, and no other does
abbrev pub IsBegin : Name → List Record → ℕ → Type 0
IsBegin apex records i =
    IsPartitionPoint (λ r. is_lt (from_zonemds apex r) ≡ true) (λ r. is_lt (from_zonemds apex r) ≡ false) records i

-- the records before a place come before them or are some of them, and no other does
abbrev pub IsEnd : Name → List Record → ℕ → Type 0
IsEnd apex records i =
    IsPartitionPoint (λ r. is_le (from_zonemds apex r) ≡ true) (λ r. is_le (from_zonemds apex r) ≡ false) records i
