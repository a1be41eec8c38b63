-- Meaning: an index of owners as contracts see it, and of which owners it is the index: the sort keys of the distinct
-- ones, and where the records of each begin among those of all.
use Rattle.std.specs.Prelude.{◌≡◌, ℕ, ◌+◌, ◌<◌, ◌≤◌, List, [], length, slice_index, slice_index_or, true, false}
use Rattle.std.specs.Ordering.{nat_cmp, is_lt, is_le}
use Rattle.std.specs.Cmp.Lexicographic.{slice_cmp}
use Rattle.std.specs.declared.cmp.Ordering.{Ordering}
use Rattle.std.specs.declared.cmp.Ordering.TheVariants.{Less}
use Rattle.dz_name.specs.Words.{Name, Octets}
use Rattle.dz_index.specs.SortKey.{key_of}

-- the sort keys of the distinct owners; the place of the first record of each, and after the last one how many records
-- there are
pub record Rows : Type 0 where
  pub keys : List Octets
  pub firsts : List ℕ

-- how many distinct owners there are, and how many records
abbrev pub count : Rows → ℕ
count r = length r.keys

abbrev pub total : Rows → ℕ
total r = slice_index r.firsts (length r.keys)

-- the key of the owner before which there are so many others
abbrev pub key_at : Rows → ℕ → Octets
key_at r i = slice_index_or r.keys i []

-- keys compared octet by octet
abbrev pub compared : Octets → Octets → Ordering
compared a b = slice_cmp nat_cmp a b

-- each key comes before those after it
abbrev pub AreRising : Rows → Type 0
AreRising r = (i j : ℕ) → i < j → j < count r → compared (key_at r i) (key_at r j) ≡ Less

-- the rows are those of these owners: the keys rise and so do the first places, no owner before a row's end has a key
-- after the row's, and none from its begin on has one before it
pub record IsIndex (owners : List Name) (r : Rows) : Type 0 where
  pub total_is : total r ≡ length owners
  pub first : slice_index r.firsts 0 ≡ 0
  pub grow : (i : ℕ) → i < count r → slice_index r.firsts i < slice_index r.firsts (i + 1)
  pub rise : AreRising r
  pub upto : (i j : ℕ) (d : Name) → i < count r → j < slice_index r.firsts (i + 1)
      → is_le (compared (key_of (slice_index_or owners j d)) (key_at r i)) ≡ true
  pub behind : (i j : ℕ) (d : Name) → i < count r → slice_index r.firsts i ≤ j → j < length owners
      → is_lt (compared (key_of (slice_index_or owners j d)) (key_at r i)) ≡ false
