-- Meaning: what is wrong with the nodes of a catalog that is to be made.
use Rattle.std.specs.Prelude.{ℕ, Bool, false, ◌==◌, ◌&&◌, ◌||◌, not, nat_lt, List, [], ◌∷◌, length, Option, Some, None}
use Rattle.std.specs.Prelude.{if◌then◌else◌}
use Rattle.std.specs.List.{list_any, list_all}
use Rattle.std.specs.Str.{bytes_eq}
use Rattle.dz_name.specs.Name.{wire_of, same_label}
use Rattle.dz_name.specs.Words.{Name, Octets}
use Rattle.dz_name.specs.declared.dns.TheConstants.{NAME_OCTETS, ZONE_RECORDS}
use Rattle.dz_member.specs.Listing.{same_zone}
use Rattle.dz_settings.specs.Twice.{has_twice}
use Rattle.dz_member.specs.declared.listing.Node.{Node}
use Rattle.dz_member.specs.declared.listing.TheConstants.Listing.{NODES}
use Rattle.dz_zone.specs.Version.{zone_of}
use Rattle.dz_outward.specs.Stream.{is_fit}
use Rattle.dz_producer.specs.Records.{plain_records, all_records}
use Rattle.dz_producer.specs.declared.fault.ProduceFault.{ProduceFault}
use Rattle.dz_producer.specs.declared.fault.ProduceFault.TheVariants.{LabelTwice, BadGroup, NameTooLong, TooMany}
use Rattle.dz_producer.specs.declared.fault.ProduceFault.TheVariants.{ZoneTwice}

-- two nodes have one label
abbrev pub same_node : Node → Node → Bool
same_node a b = same_label a.label b.label

-- one character string of 1 to 255 octets (RFC 1035 section 3.3)
abbrev pub is_string : Octets → Bool
is_string [] = false
is_string (size ∷ text) = nat_lt 0 (length text) && size == length text

-- a group isn't such a string, or comes twice at the node
abbrev pub has_bad_group : Node → Bool
has_bad_group node = not (list_all is_string node.groups) || has_twice bytes_eq node.groups

-- a name has too many octets (RFC 1035 section 2.3.4)
abbrev pub is_long : Name → Bool
is_long name = nat_lt NAME_OCTETS (length (wire_of name))

-- there are too many nodes or records, or too many octets to be sent
abbrev pub too_many : Name → ℕ → List Node → Bool
too_many apex serial nodes =
    nat_lt NODES (length nodes) || (nat_lt ZONE_RECORDS (length (all_records apex serial nodes))
    || not (is_fit (zone_of apex (all_records apex serial nodes))))

-- the first fault that holds
unfoldable pub produce_fault : Name → ℕ → List Node → Option ProduceFault
produce_fault apex serial nodes =
    if has_twice same_node nodes then Some LabelTwice
    else if list_any has_bad_group nodes then Some BadGroup
    else if list_any (λ r. is_long r.owner) (plain_records apex serial nodes) then Some NameTooLong
    else if too_many apex serial nodes then Some TooMany
    else if has_twice same_zone nodes then Some ZoneTwice
    else None
