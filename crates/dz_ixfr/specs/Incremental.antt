-- Meaning: the incremental form of a transfer (RFC 1995 section 4), of whole lists of records.
use Rattle.std.specs.Prelude.{◌≡◌, ◌≢◌, ℕ, Bool, true, false, not, List, [], ◌∷◌, ◌++◌, filter, if◌then◌else◌}
use Rattle.std.specs.List.{AllByRecursion, flat_map, fold}
use Rattle.dz_name.specs.Words.{Name}
use Rattle.dz_record.specs.Record.{Record}
use Rattle.dz_record.specs.Records.{insertion}
pub use Rattle.dz_zone.specs.Revision.{is_there, without}
use Rattle.dz_zone.specs.Version.{Zone}
use Rattle.dz_xfr.specs.declared.fault.ShapeFault.{ShapeFault}
use Rattle.dz_xfr.specs.declared.fault.ShapeFault.TheVariants.{NotSoaFirst, SerialGap, DeleteMissing, AddPresent}
use Rattle.dz_xfr.specs.Apex.{is_apex_soa, serial_of, held_serial}

-- each of these records is in the zone, and is taken away
abbrev pub Deletes : List Record → List Record → List Record → Type 0
Deletes zone [] after = after ≡ zone
Deletes zone (r ∷ rs) after = (is_there r zone ≡ true) × Deletes (without r zone) rs after

-- each of these records isn't in the zone, and is put at its place
abbrev pub Adds : List Record → List Record → List Record → Type 0
Adds zone [] after = after ≡ zone
Adds zone (r ∷ rs) after = (is_there r zone ≡ false) × Adds (insertion r zone) rs after

-- none of the records is an SOA of the apex
abbrev pub HasNoSoa : Name → List Record → Type 0
HasNoSoa apex records = AllByRecursion (λ r. is_apex_soa apex r ≡ false) records

-- a difference: the old SOA, the deleted records, the new SOA, the added records
pub record Difference : Type 0 where
  pub old : Record
  pub deleted : List Record
  pub new : Record
  pub added : List Record

-- the records of a difference as they are sent (RFC 1995 section 4)
abbrev pub spelled : Difference → List Record
spelled d = d.old ∷ (d.deleted ++ d.new ∷ d.added)

-- a difference that begins at this serial leads from one zone to another
pub record IsDifference (apex : Name) (serial : ℕ) (zone : List Record) (d : Difference)
    (after : List Record) : Type 0 where
  pub old : is_apex_soa apex d.old ≡ true
  pub old_serial : serial_of d.old ≡ serial
  pub deleted : HasNoSoa apex d.deleted
  pub middle : List Record
  pub deletes : Deletes zone d.deleted middle
  pub new : is_apex_soa apex d.new ≡ true
  pub added : HasNoSoa apex d.added
  pub adds : Adds middle d.added after

-- one or more differences lead from a serial and a zone to the serial `goal`, to which the last alone comes; each
-- begins at the serial of the one before it
pub data Leads (apex : Name) (goal : ℕ) : ℕ → List Record → List Difference → List Record → Type 0 where
  leads_last : {serial : ℕ} {zone after : List Record} {d : Difference} → IsDifference apex serial zone d after
      → serial_of d.new ≡ goal → Leads apex goal serial zone (d ∷ []) after
  leads_on : {serial : ℕ} {zone after : List Record} {d : Difference} {ds : List Difference} (next : List Record)
      → IsDifference apex serial zone d next → serial_of d.new ≢ goal
      → Leads apex goal (serial_of d.new) next ds after → Leads apex goal serial zone (d ∷ ds) after

-- the held records without the SOA
abbrev pub others : Zone → List Record
others held = filter (λ r. not (is_apex_soa held.apex r)) held.records

-- an SOA of the apex, differences from the held zone to its serial, and an SOA of the apex with its RDATA; the zone
-- has the first SOA and what is then left
pub record IsIncremental (held : Zone) (records zone : List Record) : Type 0 where
  pub first : Record
  pub differences : List Difference
  pub last : Record
  pub after : List Record
  pub are : records ≡ first ∷ (flat_map spelled differences ++ last ∷ [])
  pub opens : is_apex_soa held.apex first ≡ true
  pub leads : Leads held.apex (serial_of first) (held_serial held) (others held) differences after
  pub closes : is_apex_soa held.apex last ≡ true
  pub same : last.rdata ≡ first.rdata
  pub zone_is : zone ≡ insertion first after

-- an SOA of the apex turns the parity, and another record leaves it
abbrev pub turned : Name → Bool → Record → Bool
turned apex even r = if is_apex_soa apex r then not even else even

-- an even number of these records are SOAs of the apex: after an even number records are deleted, and after an odd
-- number, from the third on, they are added
abbrev pub is_even : Name → List Record → Bool
is_even apex records = fold (turned apex) true records

-- the fault of the first record with which no incremental form goes on
abbrev pub blamed : Name → List Record → Record → ShapeFault
blamed apex [] r = NotSoaFirst
blamed apex (first ∷ []) r = SerialGap
blamed apex (first ∷ second ∷ front) r =
    if is_apex_soa apex r then SerialGap
    else if is_even apex (first ∷ second ∷ front) then DeleteMissing
    else AddPresent

-- the fault is that of the first record with which no incremental form goes on
abbrev pub Blames : Name → List Record → Record → ShapeFault → Type 0
Blames apex front r fault = fault ≡ blamed apex front r
