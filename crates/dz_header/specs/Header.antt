-- Meaning: the header of a message (RFC 1035 section 4.1.1).
use Rattle.std.specs.Prelude.{nat_lt, [], ◌∷◌, ◌++◌, length, drop, Option, Some, None, if◌then◌else◌}
use Rattle.std.specs.List.{flat_map}
use Rattle.dz_name.specs.Numbers.{two, number_of_two}
use Rattle.dz_header.specs.declared.header.Header.{Header}
use Rattle.dz_name.specs.declared.dns.TheConstants.{HEADER_OCTETS}
use Rattle.dz_name.specs.Words.{Octets}

-- the header in the first twelve octets: its six numbers
unfoldable pub header_in : Octets → Header
header_in octets = record {
  id = number_of_two octets;
  flags = number_of_two (drop 2 octets);
  counts = number_of_two (drop 4 octets) ∷ number_of_two (drop 6 octets) ∷ number_of_two (drop 8 octets)
      ∷ number_of_two (drop 10 octets) ∷ [];
}

-- the header at the beginning of some octets; none where there are fewer than twelve
abbrev pub header_of : Octets → Option Header
header_of octets = if nat_lt (length octets) HEADER_OCTETS then None else Some (header_in octets)

-- the twelve octets of a header
unfoldable pub header_octets : Header → Octets
header_octets header = two header.id ++ (two header.flags ++ flat_map two header.counts)
