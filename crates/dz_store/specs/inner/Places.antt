-- Inner: where the record that counts for a zone is.
use Rattle.std.specs.Prelude.{ℕ, ◌+◌, if◌then◌else◌, List, length, Option, Some, None}
use Rattle.std.specs.List.{fold}
use Rattle.dz_name.specs.Words.{Name, Octets}
use Rattle.dz_store.specs.Store.{is_kept, is_of}
use Rattle.dz_store.specs.declared.places.Place.{Place}

-- how many octets the records take so far, and the place
pub record Far : Type 0 where
  pub end : ℕ
  pub place : Option Place

-- the same after one more payload, whose record has 9 octets more
abbrev pub place_step : Name → Far → Octets → Far
place_step zone far payload = record {
  end = far.end + (9 + length payload);
  place = if is_of zone payload
      then (if is_kept payload then Some (record { at = far.end; size = length payload }) else None) else far.place;
}

-- the octets of all records, and the place of the record that counts for a zone
abbrev pub places : Name → List Octets → Far
places zone list = fold (place_step zone) (record { end = 0; place = None }) list
