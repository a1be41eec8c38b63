-- Meaning: what is wrong with a catalog zone (RFC 9432 sections 4.1, 4.2.1 and 4.3.1). The records of the zone are in
-- any order, and no two of them are the same.
use Rattle.std.specs.Prelude.{Bool, ◌==◌, ◌&&◌, not, nat_lt, List, ◌∷◌, codes, Option, Some, None, if◌then◌else◌}
use Rattle.std.specs.List.{list_any, count_by}
use Rattle.std.specs.Option.{option_or}
use Rattle.dz_name.specs.Name.{same_name, same_label}
use Rattle.dz_name.specs.Words.{Name, Octets}
use Rattle.dz_name.specs.declared.dns.TheConstants.{TYPE_PTR, TYPE_TXT}
use Rattle.dz_record.specs.Record.{Record}
use Rattle.dz_zone.specs.Valid.{some_two, both_are}
use Rattle.dz_member.specs.declared.listing.Node.{Node}
use Rattle.dz_member.specs.Listing.{same_zone}
use Rattle.dz_settings.specs.Twice.{has_twice}
use Rattle.dz_catalog.specs.Member.{is_node, is_coo, is_member, nodes_of}
use Rattle.dz_member.specs.declared.listing.Broken.{Broken}
use Rattle.dz_member.specs.declared.listing.Broken.TheVariants.{NoVersion, VersionTwice, OtherVersion, MemberTwice}
use Rattle.dz_member.specs.declared.listing.Broken.TheVariants.{CooTwice, TooManyMembers, ZoneTwice}
use Rattle.dz_member.specs.declared.listing.TheConstants.Listing.{NODES}

-- the name of the schema's version (RFC 9432 section 4.2.1)
abbrev pub version_name : Name → Name
version_name apex = codes "version" ∷ apex

-- a TXT record of the schema's version
abbrev pub is_version : Name → Record → Bool
is_version apex r = r.kind == TYPE_TXT && same_name r.owner (version_name apex)

-- the RDATA of the one version that is defined: one character string, 2 (RFC 9432 section 4.2.1)
abbrev pub version_2 : Octets
version_2 = 1 ∷ codes "2"

-- no TXT record gives the schema's version (RFC 9432 section 4.2.1)
abbrev pub no_version : Name → List Record → Bool
no_version apex records = not (list_any (is_version apex) records)

-- there is more than one such record
abbrev pub version_twice : Name → List Record → Bool
version_twice apex records = nat_lt 1 (count_by (is_version apex) records)

-- the version is another one (RFC 9432 section 4.2.1)
abbrev pub other_version : Name → List Record → Bool
other_version apex records = list_any (λ r. is_version apex r && not (same_label r.rdata version_2)) records

-- two PTR records of one owner, whose name passes a test
unfoldable pub twins : (Name → Bool) → Record → Record → Bool
twins test r s = test r.owner && both_are TYPE_PTR r s

-- a member node has more than one PTR (RFC 9432 section 4.1)
abbrev pub member_twice : Name → List Record → Bool
member_twice apex records = some_two (twins (is_node apex)) records

-- a change of ownership has more than one PTR (RFC 9432 section 4.3.1)
abbrev pub coo_twice : Name → List Record → Bool
coo_twice apex records = some_two (twins (is_coo apex)) records

-- more member nodes than a catalog may have
abbrev pub too_many : Name → List Record → Bool
too_many apex records = nat_lt NODES (count_by (is_member apex) records)

-- two member nodes name one zone (RFC 9432 section 4.1)
abbrev pub zone_twice : List Node → Bool
zone_twice nodes = has_twice same_zone nodes

-- the first reason that holds of the records alone
unfoldable pub broken_records : Name → List Record → Option Broken
broken_records apex records =
    if no_version apex records then Some NoVersion
    else if version_twice apex records then Some VersionTwice
    else if other_version apex records then Some OtherVersion
    else if member_twice apex records then Some MemberTwice
    else if coo_twice apex records then Some CooTwice
    else if too_many apex records then Some TooManyMembers
    else None

-- why the catalog is broken, if it is: the first reason that holds
abbrev pub broken_of : Name → List Record → Option Broken
broken_of apex records =
    option_or (broken_records apex records) (if zone_twice (nodes_of apex records) then Some ZoneTwice else None)

-- the reason that the number of member nodes gives, if it gives one
abbrev pub by_count : Name → List Record → Option Broken
by_count apex records = if too_many apex records then Some TooManyMembers else None
