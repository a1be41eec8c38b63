-- Inner: a portion of an index: the records from one place up to another, with their owners; and how it is put after
-- the rows of another index.
use Rattle.std.specs.Prelude.{ℕ, ◌+◌, ◌-◌, ◌^◌, ◌<◌, ◌≤◌, List, [], ◌∷◌, ◌++◌, length, slice_index, slice_range, take}
use Rattle.std.specs.Prelude.{map}
use Rattle.dz_index.specs.declared.index.Portion.{Portion}
use Rattle.dz_index.specs.Rows.{Rows, count, total}

-- a place as far from a new beginning as it was from the old one
abbrev pub moved : ℕ → ℕ → ℕ → ℕ
moved old new place = place - old + new

-- no place comes before the old beginning, and each fits four octets when moved
pub record AreMovable (old new : ℕ) (places : List ℕ) : Type 0 where
  pub behind : (i : ℕ) → i < length places → old ≤ slice_index places i
  pub fit : (i : ℕ) → i < length places → moved old new (slice_index places i) < 2 ^ 32

-- the records of a portion are those of its owners: the first owner has the first record, and the last owner the last
pub record IsPlaces (firsts : List ℕ) (p : Portion) : Type 0 where
  pub some : p.begin < p.end
  pub order : p.from < p.to
  pub within : p.to < length firsts
  pub low : slice_index firsts p.from ≤ p.begin
  pub high : (i : ℕ) → p.from < i → i < length firsts → p.begin < slice_index firsts i
  pub ends : (i : ℕ) → i < p.to → slice_index firsts i < p.end
  pub upto : p.end ≤ slice_index firsts p.to

-- the same of an index
abbrev pub IsPortion : Rows → Portion → Type 0
IsPortion r p = IsPlaces r.firsts p

-- the places of the owners of a portion after others, and the place after its records
abbrev pub places_with : List ℕ → List ℕ → Portion → ℕ → List ℕ
places_with firsts others p records = (firsts ++ map (moved p.begin records) (slice_range others (p.from + 1) p.to))
    ++ (records + (p.end - p.begin)) ∷ []

-- a portion after the owners of an index
abbrev pub joined : Rows → Rows → Portion → Rows
joined r other p = record {
  keys = r.keys ++ slice_range other.keys p.from p.to;
  firsts = places_with r.firsts other.firsts p (total r);
}

-- the same where the first owner of the portion is the last one of the index
abbrev pub continued : Rows → Rows → Portion → Rows
continued r other p = record {
  keys = r.keys ++ slice_range other.keys (p.from + 1) p.to;
  firsts = places_with (take (count r) r.firsts) other.firsts p (total r);
}
