-- Meaning: the fields of a text.
use Rattle.std.specs.Prelude.{ℕ, ◌==◌, List, [], ◌∷◌, Option, Some, None, option_map}
use Rattle.std.specs.List.{slice_split}
use Rattle.dz_name.specs.Words.{Octets}

-- what comes before the first separator, between each two and after the last
abbrev pub parts_of : ℕ → Octets → List Octets
parts_of separator text = slice_split (λ octet. octet == separator) text

-- fields have one space between them: beside another space, or at an end, a space has an empty field
abbrev pub fields_of : Octets → List Octets
fields_of line = parts_of 32 line

-- the one field, where there is just one
abbrev pub one : List Octets → Option Octets
one (field ∷ []) = Some field
one _ = None

-- the two fields, where there are just two
abbrev pub two : List Octets → Option (Octets × Octets)
two [] = None
two (field ∷ fields) = option_map (λ second. (field, second)) (one fields)

-- the three fields, where there are just three
abbrev pub three : List Octets → Option (Octets × Octets × Octets)
three [] = None
three (field ∷ fields) = option_map (λ behind. (field, behind.0, behind.1)) (two fields)
