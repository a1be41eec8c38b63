-- Inner: what holds of the rows of an index whatever the owners, where a key is among them, and how they grow.
use Rattle.std.specs.Prelude.{◌≡◌, ℕ, ◌+◌, ◌-◌, ◌<◌, ◌≤◌, [], ◌∷◌, ◌++◌, length, slice_index, slice_set, nat_lt, true}
use Rattle.std.specs.Prelude.{false, if◌then◌else◌}
use Rattle.std.specs.Ordering.{is_lt}
use Rattle.std.specs.declared.cmp.Ordering.{Ordering}
use Rattle.std.specs.declared.cmp.Ordering.TheVariants.{Less}
use Rattle.dz_name.specs.Words.{Octets}
use Rattle.dz_index.specs.Rows.{Rows, count, total, key_at, compared}

-- a place for each key and one after them, which rise from 0, none after the last one; each key has a record
pub record IsKept (r : Rows) : Type 0 where
  pub long : length r.firsts ≡ length r.keys + 1
  pub first : slice_index r.firsts 0 ≡ 0
  pub rise : (i : ℕ) → i < length r.keys → slice_index r.firsts i < slice_index r.firsts (i + 1)
  pub within : (i : ℕ) → i < length r.firsts → slice_index r.firsts i ≤ total r
  pub few : length r.keys ≤ total r

-- the last key beside another
abbrev pub last_compared : Rows → Octets → Ordering
last_compared r key = if nat_lt 0 (count r) then compared (key_at r (count r - 1)) key else Less

-- so many keys come before a key, and no other does
pub record IsPlaceAmong (key : Octets) (r : Rows) (place : ℕ) : Type 0 where
  pub before : (i : ℕ) → i < place → is_lt (compared (key_at r i) key) ≡ true
  pub behind : (i : ℕ) → place ≤ i → i < count r → is_lt (compared (key_at r i) key) ≡ false

-- the last owner once more, and one with a key of its own after the others
abbrev pub repeated : Rows → Rows
repeated r = record { keys = r.keys; firsts = slice_set r.firsts (count r) (total r + 1) }

abbrev pub added : Rows → Octets → Rows
added r key = record { keys = r.keys ++ key ∷ []; firsts = r.firsts ++ (total r + 1) ∷ [] }
