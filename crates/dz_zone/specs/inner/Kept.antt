-- Inner: a version as its fields: the records of a zone, the index of their owners, how many are of types that it
-- treats apart, and the places of NSEC records.
use Rattle.std.specs.Prelude.{◌≡◌, ℕ, ◌-◌, ◌<◌, true, List, [], ◌∷◌, length, slice_index, slice_index_or}
use Rattle.dz_name.specs.declared.dns.TheConstants.{TYPE_NSEC}
use Rattle.std.specs.Ordering.{is_lt}
use Rattle.dz_name.specs.Words.{Name}
use Rattle.std.specs.List.Sorted.{IsStrictlySortedBy}
use Rattle.dz_record.specs.Record.{Record, record_order}
use Rattle.dz_index.specs.Rows.{Rows, IsIndex}
use Rattle.dz_zone.specs.Version.{Zone, IsVersion, owners_of}
use Rattle.dz_zone.specs.inner.Kinds.{kinds_of}
use Rattle.dz_zone.specs.declared.kinds.Kinds.{Kinds}

-- the apex, which is the owner of the first record
abbrev pub apex_in : List Record → Name
apex_in [] = []
apex_in (r ∷ rs) = r.owner

-- the zone of such records
abbrev pub zone_in : List Record → Zone
zone_in records = record { apex = apex_in records; records = records }

-- the record at a place comes after the one before it, if there is one
abbrev pub RisesAt : List Record → ℕ → Type 0
RisesAt records place = 0 < place → (d : Record)
    → is_lt (record_order (slice_index_or records (place - 1) d) (slice_index_or records place d)) ≡ true

-- records each of which comes before the next, and the index of their owners
pub record IsRisen (records : List Record) (index : Rows) : Type 0 where
  pub rises : IsStrictlySortedBy record_order records
  pub indexed : IsIndex (owners_of records) index

-- the places of NSEC records: an NSEC record is at each of them, each NSEC record is at one of them, and they rise
pub record AreNsecs (records : List Record) (nsecs : List ℕ) : Type 0 where
  pub sound : (i : ℕ) (d : Record) → i < length nsecs
      → (slice_index nsecs i < length records) × ((slice_index_or records (slice_index nsecs i) d).kind ≡ TYPE_NSEC)
  pub complete : (k : ℕ) (d : Record) → k < length records → (slice_index_or records k d).kind ≡ TYPE_NSEC
      → (i : ℕ) × (i < length nsecs) × (slice_index nsecs i ≡ k)
  pub rise : (i j : ℕ) → i < j → j < length nsecs → slice_index nsecs i < slice_index nsecs j

-- the fields that are kept are those of this version
pub record IsKept (zone : Zone) (index : Rows) (kinds : Kinds) (nsecs : List ℕ) : Type 0 where
  pub version : IsVersion zone
  pub indexed : IsIndex (owners_of zone.records) index
  pub kinds_are : kinds ≡ kinds_of zone.apex zone.records
  pub nsecs_are : AreNsecs zone.records nsecs
