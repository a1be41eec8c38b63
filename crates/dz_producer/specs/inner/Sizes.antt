-- Inner: how many octets the records of a node have, by those of the owner of its PTR.
use Rattle.std.specs.Prelude.{ℕ, ◌+◌, List, length, sum_by, Option, Some, None}
use Rattle.dz_name.specs.Name.{wire_of}
use Rattle.dz_name.specs.Words.{Name, Octets}

-- the octets of the change of ownership, where the node has one
abbrev pub coo_octets : ℕ → Option Name → ℕ
coo_octets owner None = 0
coo_octets owner (Some catalog) = owner + 4 + 10 + length (wire_of catalog)

-- the octets of the PTR and of the change of ownership
abbrev pub pointer_octets : ℕ → Name → Option Name → ℕ
pointer_octets owner zone coo = owner + 10 + length (wire_of zone) + coo_octets owner coo

-- the octets of the groups
abbrev pub text_octets : ℕ → List Octets → ℕ
text_octets owner texts = sum_by (λ text. owner + 6 + 10 + length text) texts
