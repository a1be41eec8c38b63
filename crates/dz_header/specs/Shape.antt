-- Meaning: records by their shape alone: pointers aren't followed and names aren't judged by their length (RFC 1035
-- sections 3.2.1 and 4.1.4).
use Rattle.std.specs.Prelude.{ℕ, zero, suc, Bool, ◌==◌, nat_le, nat_lt, [], ◌∷◌, length, take, drop, slice_index}
use Rattle.std.specs.Prelude.{Option, Some, None, option_and_then, if◌then◌else◌}
use Rattle.dz_header.specs.RecordHead.{head_of}
use Rattle.dz_header.specs.declared.record_head.TheConstants.{HEAD_OCTETS}
use Rattle.dz_header.specs.declared.shape.Shape.{Shape}
use Rattle.dz_header.specs.declared.shape.TheConstants.{POINTER}
use Rattle.dz_name.specs.declared.dns.TheConstants.{LABEL_OCTETS}
use Rattle.dz_name.specs.Words.{Octets}

infixl 10 ◌>>=◌
-- one reader after another; the result is none where one of them gives none
abbrev pub ◌>>=◌ : {A B : Type 0} → Option A → (A → Option B) → Option B
o >>= f = option_and_then f o

-- what follows an owner name: labels, and then a zero octet or a pointer; the number counts the octets of the present
-- label that are still to be skipped
unfoldable pub behind_owner : ℕ → Octets → Option Octets
behind_owner left [] = None
behind_owner (suc left) (octet ∷ rest) = behind_owner left rest
behind_owner zero (octet ∷ rest) =
    if octet == 0 then Some rest
    else if nat_le octet LABEL_OCTETS then behind_owner octet rest
    else if nat_lt octet POINTER then None
    else if length rest == 0 then None
    else Some (drop 1 rest)

-- the shape from the fields after an owner name, the RDATA of the length that they give, and what follows
unfoldable pub behind_head : Bool → Octets → Option (Shape × Octets × Octets)
behind_head root octets = do
  head ← head_of octets
  if nat_lt (length (drop HEAD_OCTETS octets)) head.size then None
      else Some (
        record { root = root; head = head },
        take head.size (drop HEAD_OCTETS octets),
        drop head.size (drop HEAD_OCTETS octets),
      )

-- a record's shape, its RDATA, and what follows it; its owner name is the root where it is the single zero octet
unfoldable pub shape_of : Octets → Option (Shape × Octets × Octets)
shape_of octets = do
  rest ← behind_owner 0 octets
  behind_head (slice_index octets 0 == 0) rest

-- what follows the given number of records
unfoldable pub behind_records : ℕ → Octets → Option Octets
behind_records zero octets = Some octets
behind_records (suc count) octets = do
  first ← shape_of octets
  behind_records count first.2
