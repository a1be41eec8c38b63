-- Meaning: domain names as lists of labels (RFC 1034 section 3.1, RFC 1035 section 3.1).
use Rattle.std.specs.Prelude.{◌≡◌, ℕ, zero, suc, ◌+◌, ◌<◌, ◌≤◌, nat_lt, nat_le, Bool, Option, Some, None, List, []}
use Rattle.std.specs.Prelude.{◌∷◌, ◌++◌, length, take, drop, reverse, map, Result, Ok, Err, if◌then◌else◌}
use Rattle.std.specs.Char.{to_ascii_lowercase}
use Rattle.std.specs.Cmp.Lexicographic.{slice_cmp}
use Rattle.std.specs.Ordering.{nat_cmp}
use Rattle.std.specs.List.{AllByRecursion, ends_with}
use lib.Pointwise.{pointwise}
use Rattle.std.specs.Str.{bytes_eq}
use Rattle.std.specs.declared.cmp.Ordering.{Ordering}
use Rattle.dz_name.specs.Words.{Name, Octets}
use Rattle.dz_name.specs.declared.text.NameError.{NameError}
use Rattle.dz_name.specs.declared.text.NameError.TheVariants.{NameTooLong}

-- octets with ASCII letters in lower case (RFC 4343 section 2)
abbrev pub lower : Octets → Octets
lower octets = map to_ascii_lowercase octets

-- a label has 1 to 63 octets, and no upper-case ASCII letter
pub record IsLabel (label : Octets) : Type 0 where
  pub some : 0 < length label
  pub short : length label < 64
  pub lower_case : lower label ≡ label

-- the wire form: each label preceded by its length octet, and a zero octet at the end (RFC 1035 section 3.1)
unfoldable pub wire_of : Name → Octets
wire_of [] = 0 ∷ []
wire_of (label ∷ labels) = length label ∷ (label ++ wire_of labels)

-- the labels whose wire form is at the beginning of some octets (RFC 1035 section 3.1); the number only bounds how
-- many are read
unfoldable pub labels_in : ℕ → Octets → Name
labels_in zero octets = []
labels_in (suc n) [] = []
labels_in (suc n) (zero ∷ octets) = []
labels_in (suc n) (suc k ∷ octets) = take (suc k) octets ∷ labels_in n (drop (suc k) octets)

-- a name is a list of labels whose wire form has at most 255 octets (RFC 1035 section 3.1)
pub record IsName (labels : Name) : Type 0 where
  pub each : AllByRecursion IsLabel labels
  pub short : length (wire_of labels) ≤ 255

-- the labels of a wire form
abbrev pub labels_of : Octets → Name
labels_of wire = labels_in (length wire) wire

-- octets that are the wire form of a name
pub record IsWire (wire : Octets) : Type 0 where
  pub name : IsName (labels_of wire)
  pub wire_is : wire ≡ wire_of (labels_of wire)

-- a name is at or below another where that one is a suffix of it
abbrev pub IsWithin : Name → Name → Type 0
IsWithin name above = (front : Name) × (name ≡ front ++ above)

-- whether two labels are the same
abbrev pub same_label : Octets → Octets → Bool
same_label a b = bytes_eq a b

-- whether two names are the same
abbrev pub same_name : Name → Name → Bool
same_name a b = pointwise bytes_eq a b

-- whether a name is at or below another, as a truth value
abbrev pub is_within : Name → Name → Bool
is_within name above = ends_with bytes_eq name above

-- the parent name, one label up; none for the root
abbrev pub parent_of : Name → Option Name
parent_of [] = None
parent_of (label ∷ labels) = Some labels

-- the leftmost label; none for the root
abbrev pub first_label : Name → Option Octets
first_label [] = None
first_label (label ∷ labels) = Some label

-- the name and its ancestors, the longest first, the root last
unfoldable pub upward : Name → List Name
upward [] = [] ∷ []
upward (label ∷ labels) = (label ∷ labels) ∷ upward labels

-- the wildcard below a name (RFC 4592 section 2.1.1)
abbrev pub wildcard_of : Name → Name
wildcard_of name = (42 ∷ []) ∷ name

-- the name of these labels, where its wire form has at most 255 octets (RFC 1035 section 3.1)
abbrev pub fitting : Name → Option Name
fitting name = if nat_le (length (wire_of name)) 255 then Some name else None

-- the order of labels as octet strings, where a missing octet sorts first
abbrev pub label_order : Octets → Octets → Ordering
label_order = slice_cmp nat_cmp

-- canonical order: label by label from the right, as octet strings; a missing label or octet sorts first (RFC 4034
-- section 6.1)
abbrev pub canonical_order : Name → Name → Ordering
canonical_order a b = slice_cmp (slice_cmp nat_cmp) (reverse a) (reverse b)

-- the child of a name with one more label before the first, where its wire form has at most 255 octets
abbrev pub child_of : Name → Octets → Result Name NameError
child_of name label = if nat_lt (length (wire_of name) + length label) 255 then Ok (label ∷ name) else Err NameTooLong
