-- Meaning: the first octets of a sort key, which tell most names apart.
use Rattle.std.specs.Prelude.{ℕ, zero, suc, [], ◌∷◌}
use Rattle.dz_name.specs.Words.{Octets}

-- so many first octets, with zeros after them where there are fewer
unfoldable pub lead_of : ℕ → Octets → Octets
lead_of zero octets = []
lead_of (suc n) [] = 0 ∷ lead_of n []
lead_of (suc n) (octet ∷ octets) = octet ∷ lead_of n octets
