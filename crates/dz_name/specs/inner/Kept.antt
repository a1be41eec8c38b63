-- Inner: how a name is kept, its wire form at the beginning of 255 octets and followed by zeros; and a label likewise,
-- at the beginning of 63.
use Rattle.std.specs.Prelude.{◌≡◌, ℕ, ◌-◌, ◌++◌, length, take, replicate}
use Rattle.dz_name.specs.Name.{wire_of, labels_in, IsName, IsLabel}
use Rattle.dz_name.specs.Words.{Name, Octets}

-- the wire form followed by zeros, 255 octets in all
abbrev pub padded : Name → Octets
padded labels = wire_of labels ++ replicate (255 - length (wire_of labels)) 0

-- 255 octets that keep a name whose wire form has this length
pub record IsKept (octets : Octets) (len : ℕ) : Type 0 where
  pub name : IsName (labels_in len octets)
  pub padded_octets : octets ≡ padded (labels_in len octets)
  pub len_is : len ≡ length (wire_of (labels_in len octets))

-- a label followed by zeros, 63 octets in all
abbrev pub label_padded : Octets → Octets
label_padded label = label ++ replicate (63 - length label) 0

-- 63 octets that keep a label of this length
pub record IsLabelKept (octets : Octets) (len : ℕ) : Type 0 where
  pub label : IsLabel (take len octets)
  pub padded : label_padded (take len octets) ≡ octets
  pub len_is : length (take len octets) ≡ len
