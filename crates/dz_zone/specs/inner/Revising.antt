-- Inner: how a version under changes is kept: its records, each with a flag, and the records that were added.
use Rattle.std.specs.Prelude.{◌≡◌, ℕ, ◌+◌, ◌<◌, ◌≤◌, Bool, true, false, List, [], ◌∷◌, length, take, slice_index_or}
use Rattle.std.specs.Prelude.{Result, Ok, Err}
use Rattle.std.specs.List.{AllByRecursion}
use Rattle.std.specs.Ordering.{is_gt, is_eq}
use Rattle.std.specs.declared.cmp.Ordering.{Ordering}
use Rattle.dz_index.specs.Index.{order_behind}
use Rattle.dz_name.specs.declared.dns.TheConstants.{ZONE_RECORDS}
use Rattle.dz_index.specs.declared.index.TheConstants.{OWNERS}
use Rattle.dz_index.specs.Rows.{Rows, IsIndex}
use Rattle.dz_record.specs.Record.{Record, record_order}
use Rattle.dz_zone.specs.Version.{Zone, IsValid, owners_of}
use Rattle.dz_zone.specs.inner.Overlay.{Flagged, IsOverlay, left_of, overlaid, first_before, has_tie}

-- elements with their flags
unfoldable pub flags_of : {X : Type 0} → List X → List Bool → List (Flagged X)
flags_of [] flags = []
flags_of (x ∷ xs) [] = []
flags_of (x ∷ xs) (flag ∷ flags) = record { item = x; stands = flag } ∷ flags_of xs flags

-- the records that are left, and those that were added, in order
abbrev pub revised_of : List Record → List Bool → List Record → List Record
revised_of records flags added = overlaid record_order added (left_of (flags_of records flags))

-- a flag for each record of a valid version, and no more added records than an index has room for
pub record IsRevising (zone : Zone) (flags : List Bool) (added : List Record) : Type 0 where
  pub valid : IsValid zone
  pub long : length flags ≡ length zone.records
  pub few : ZONE_RECORDS + length added ≤ OWNERS
  pub overlay : IsOverlay record_order (flags_of zone.records flags) added

-- records and rows of an index
pub record Merged : Type 0 where
  pub records : List Record
  pub rows : Rows

-- the rows are the index of the records' owners
abbrev pub IsMerged : Merged → Type 0
IsMerged m = IsIndex (owners_of m.records) m.rows

-- the owner of a record comes after the owners of others, or is the last of them
abbrev pub follows : List Record → Record → Type 0
follows records r = is_gt (order_behind (owners_of records) r.owner) ≡ false

-- so many first records are still there, and the first added one comes before none of them
pub record IsStretch (records : List Record) (flags : List Bool) (added : List Record) (n : ℕ) : Type 0 where
  pub stand : AllByRecursion (λ flag. flag ≡ true) (take n flags)
  pub ahead : AllByRecursion (λ r. first_before record_order added r ≡ false) (take n records)

-- where an element that compares equal is, or that none does
abbrev pub FindsAt : {X : Type 0} → (X → X → Ordering) → List X → X → Result ℕ ℕ → Type 0
FindsAt {X} R xs x (Ok at) = (at < length xs) × ((d : X) → is_eq (R x (slice_index_or xs at d)) ≡ true)
FindsAt R xs x (Err at) = has_tie R x xs ≡ false
