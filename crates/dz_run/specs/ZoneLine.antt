-- Meaning: the first line of `answer`: the name of a zone, and octets in hex.
use Rattle.std.specs.Prelude.{nat_eq, drop, codes, Option, Some, None, Result, Ok, Err, if◌then◌else◌}
use Rattle.std.specs.List.{starts_with}
use Rattle.dz_settings.specs.Peer.{cut}
use Rattle.dz_name.specs.Text.{name_of_text}
use Rattle.dz_name.specs.declared.text.NameError.{NameError}
use Rattle.dz_name.specs.Words.{Name, Octets}
use Rattle.dz_script.specs.Hex.{octets_in}

-- a name and octets, where these were read
abbrev pub with_octets : Name → Option Octets → Option (Name × Octets)
with_octets name None = None
with_octets name (Some octets) = Some (name, octets)

-- the same, where the name was read too (RFC 1035 section 5.1)
abbrev pub with_name : Result Name NameError → Octets → Option (Name × Octets)
with_name (Ok name) hex = with_octets name (octets_in hex)
with_name (Err error) hex = None

-- `<name> <hex>`
abbrev pub two_fields : Option (Octets × Octets) → Option (Name × Octets)
two_fields None = None
two_fields (Some fields) = with_name (name_of_text fields.0) fields.1

-- `zone <name> <hex>`: the name of the apex, and the octets of the message; none of any other line
abbrev pub zone_line : Octets → Option (Name × Octets)
zone_line line = if starts_with nat_eq line (codes "zone ") then two_fields (cut 32 (drop 5 line)) else None
