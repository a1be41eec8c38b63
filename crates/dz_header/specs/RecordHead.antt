-- Meaning: the fields between the owner name of a record and its RDATA (RFC 1035 section 4.1.3).
use Rattle.std.specs.Prelude.{nat_lt, length, drop, Option, Some, None, if◌then◌else◌}
use Rattle.dz_name.specs.Numbers.{number_of_two, number_of_four}
use Rattle.dz_header.specs.declared.record_head.RecordHead.{RecordHead}
use Rattle.dz_header.specs.declared.record_head.TheConstants.{HEAD_OCTETS}
use Rattle.dz_name.specs.Words.{Octets}

-- type, class, TTL and length of RDATA in the first ten octets
unfoldable pub head_in : Octets → RecordHead
head_in octets = record {
  kind = number_of_two octets;
  class = number_of_two (drop 2 octets);
  ttl = number_of_four (drop 4 octets);
  size = number_of_two (drop 8 octets);
}

-- the fields at the beginning of some octets; none where there are fewer than ten
abbrev pub head_of : Octets → Option RecordHead
head_of octets = if nat_lt (length octets) HEAD_OCTETS then None else Some (head_in octets)
