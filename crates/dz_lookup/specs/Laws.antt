-- Judge: how many comparisons a lookup takes in a zone of 1,022 records, as an SOA, an NS and 1,020 names of one
-- address make.
use Rattle.std.specs.Prelude.{ℕ, ◌≤◌}
use Rattle.dz_lookup.specs.Counted.{IsLookup}

-- of a name of two labels, as `h0500.example.`
abbrev pub TakesFew : Type 0
TakesFew = (taken : ℕ) → IsLookup 2 1022 taken → taken ≤ 44
