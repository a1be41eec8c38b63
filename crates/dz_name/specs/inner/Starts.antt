-- Inner: where the labels of a name begin in its wire form.
use Rattle.std.specs.Prelude.{◌≡◌, ℕ, ◌-◌, ◌<◌, List, length, drop, slice_index}
use Rattle.dz_name.specs.Name.{wire_of}
use Rattle.dz_name.specs.Words.{Name}

-- the offset at which a label begins in the wire form
abbrev pub offset_of : Name → ℕ → ℕ
offset_of labels k = length (wire_of labels) - length (wire_of (drop k labels))

-- these are the offsets of the first labels
pub record AreStarts (labels : Name) (count : ℕ) (starts : List ℕ) : Type 0 where
  pub long : length starts ≡ 128
  pub each : (k : ℕ) → k < count → slice_index starts k ≡ offset_of labels k
