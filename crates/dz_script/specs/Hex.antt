-- Meaning: octets in hex, in either case of the letters.
use Rattle.std.specs.Prelude.{◌&&◌, nat_lt, nat_le, [], length, codes, Option, Some, None, Result, Ok, Err}
use Rattle.std.specs.Prelude.{if◌then◌else◌}
use Rattle.std.specs.Str.{bytes_eq}
use Rattle.hex.specs.Hex.{decode_of}
use Rattle.hex.specs.declared.error.FromHexError.{FromHexError}
use Rattle.dz_name.specs.declared.dns.TheConstants.{MESSAGE_OCTETS}
use Rattle.dz_name.specs.Words.{Octets}

-- at least one octet, and no more than a message has
abbrev pub message_octets : Result Octets FromHexError → Option Octets
message_octets (Ok octets) =
    if nat_lt 0 (length octets) && nat_le (length octets) MESSAGE_OCTETS then Some octets else None
message_octets (Err error) = None

-- the octets of a message in hex
unfoldable pub octets_in : Octets → Option Octets
octets_in hex = message_octets (decode_of hex)

-- at least one octet
abbrev pub some_octets : Result Octets FromHexError → Option Octets
some_octets (Ok octets) = if nat_lt 0 (length octets) then Some octets else None
some_octets (Err error) = None

-- what a job got: octets in hex, or `-` for none
unfoldable pub taken_octets : Octets → Option Octets
taken_octets text = if bytes_eq text (codes "-") then Some [] else some_octets (decode_of text)
