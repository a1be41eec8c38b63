-- Meaning: the words of the other definitions.
use Rattle.std.specs.Prelude.{ℕ, List}

-- octets, each a number below 256
abbrev pub Octets : Type 0
Octets = List ℕ

-- a domain name: its labels, the leftmost first and without the root's (RFC 1034 section 3.1)
abbrev pub Name : Type 0
Name = List Octets

-- the number of a TYPE (RFC 1035 section 3.2.2)
abbrev pub Kind : Type 0
Kind = ℕ
