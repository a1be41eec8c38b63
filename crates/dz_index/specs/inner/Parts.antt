-- Inner: how the code keeps keys: in one block of octets, with the places where they begin and end.
use Rattle.std.specs.Prelude.{◌≡◌, ℕ, ◌+◌, ◌-◌, ◌*◌, ◌<◌, ◌≤◌, List, [], ◌∷◌, length, slice_index, slice_range}
use Rattle.dz_name.specs.Words.{Octets}

-- the parts of octets from each bound up to the next
abbrev pub parts_of : Octets → List ℕ → List Octets
parts_of octets [] = []
parts_of octets (begin ∷ []) = []
parts_of octets (begin ∷ end ∷ bounds) = slice_range octets begin end ∷ parts_of octets (end ∷ bounds)

-- bounds that rise up to the end of the octets, of which no part has more than 512
pub record AreBounds (octets : Octets) (bounds : List ℕ) : Type 0 where
  pub some : 0 < length bounds
  pub rising : (i : ℕ) → i + 1 < length bounds → slice_index bounds i ≤ slice_index bounds (i + 1)
  pub short : (i : ℕ) → i + 1 < length bounds → slice_index bounds (i + 1) ≤ slice_index bounds i + 512
  pub inside : (i : ℕ) → i < length bounds → slice_index bounds i ≤ length octets
  pub last : slice_index bounds (length bounds - 1) ≡ length octets
  pub room : length octets ≤ 512 * (length bounds - 1)

-- the last one of some bounds
abbrev pub last_of : List ℕ → ℕ
last_of bounds = slice_index bounds (length bounds - 1)

-- bounds within octets, none before the first and none after the last
pub record AreWithin (octets : Octets) (bounds : List ℕ) : Type 0 where
  pub some : 0 < length bounds
  pub rising : (i : ℕ) → i < length bounds → slice_index bounds 0 ≤ slice_index bounds i
  pub below : (i : ℕ) → i < length bounds → slice_index bounds i ≤ last_of bounds
  pub inside : (i : ℕ) → i < length bounds → slice_index bounds i ≤ length octets
