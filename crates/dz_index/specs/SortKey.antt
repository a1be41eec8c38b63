-- Meaning: the sort key of a name: octets whose order is the canonical order (RFC 4034 section 6.1). The labels stand
-- from the last to the first, each ended by the octet 0; so that 0 comes before every octet of a label, the octets 0
-- and 1 of a label are written as two.
use Rattle.std.specs.Prelude.{ℕ, zero, suc, [], ◌∷◌, reverse}
use Rattle.dz_name.specs.Words.{Name, Octets}

-- an octet of a label, and others after it
unfoldable pub octet_before : ℕ → Octets → Octets
octet_before zero rest = 1 ∷ 1 ∷ rest
octet_before (suc zero) rest = 1 ∷ 2 ∷ rest
octet_before (suc (suc octet)) rest = suc (suc octet) ∷ rest

-- a label with its end, and others after it
unfoldable pub label_before : Octets → Octets → Octets
label_before [] rest = 0 ∷ rest
label_before (octet ∷ label) rest = octet_before octet (label_before label rest)

-- labels in the order given
unfoldable pub keys_of : Name → Octets
keys_of [] = []
keys_of (label ∷ labels) = label_before label (keys_of labels)

abbrev pub key_of : Name → Octets
key_of name = keys_of (reverse name)
