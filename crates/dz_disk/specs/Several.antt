-- Meaning: records that are added to a list one after another.
use Rattle.std.specs.Prelude.{◌≡◌, ◌⊎◌, ◌+◌, ◌<◌, ℕ, Bool, List, ◌∷◌, ◌++◌, length, take, Option, Some}
use Rattle.std.specs.List.{Contains}
use Rattle.dz_disk.specs.RecordLog.{limit, records, IsLeft}

-- what a crash may leave while one of them is added, after those before it
pub record IsLeftAt (list due : List (List ℕ)) (file : List ℕ) : Type 0 where
  pub done : List (List ℕ)
  pub last : List ℕ
  pub rest : List (List ℕ)
  pub are : due ≡ done ++ last ∷ rest
  pub left : IsLeft (list ++ done) last file

-- the same, or the file before the first of them is added
abbrev pub IsLeftAmong : List (List ℕ) → List (List ℕ) → List ℕ → List ℕ → Type 0
IsLeftAmong list due before file = (file ≡ before) ⊎ IsLeftAt list due file

-- all of them were added to the records, in order
abbrev pub JoinInOrder : (List ℕ → Bool) → Option (List ℕ) → Option (List ℕ) → List (List ℕ) → Type 0
JoinInOrder reads before now due = (old : List ℕ) → before ≡ Some old
    → (new : List ℕ) × (now ≡ Some new) × (records reads new ≡ records reads old ++ due)

-- a number of them were added to the records, the first ones
abbrev pub SomeJoin : (List ℕ → Bool) → Option (List ℕ) → Option (List ℕ) → List (List ℕ) → Type 0
SomeJoin reads before now due = (old : List ℕ) → before ≡ Some old
    → (new : List ℕ) × (count : ℕ) × (now ≡ Some new) × (records reads new ≡ records reads old ++ take count due)

-- for one of them there is no room after the records
abbrev pub HasNoRoom : ℕ → List (List ℕ) → Type 0
HasNoRoom end due = (payload : List ℕ) × Contains due payload × (limit < end + 9 + length payload)
