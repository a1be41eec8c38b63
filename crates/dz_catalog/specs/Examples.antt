-- Judge: catalogs that list and catalogs that are broken, computed by the checker.
use Rattle.std.specs.Prelude.{◌≡◌, refl, [], ◌∷◌, ◌++◌, Some, None, Ok, Err, codes}
use Rattle.dz_name.specs.Name.{labels_in}
use Rattle.dz_name.specs.Words.{Kind, Name, Octets}
use Rattle.dz_name.specs.declared.dns.TheConstants.{TYPE_A, TYPE_PTR, TYPE_TXT}
use Rattle.dz_record.specs.Record.{Record}
use Rattle.dz_record.specs.Records.{in_order, insertion}
use Rattle.dz_zone.specs.Valid.{some_two, both_are}
use Rattle.dz_member.specs.declared.listing.Broken.TheVariants.{NoVersion, VersionTwice, OtherVersion, MemberTwice}
use Rattle.dz_member.specs.declared.listing.Broken.TheVariants.{CooTwice, ZoneTwice}
use Rattle.dz_member.specs.declared.listing.Node.{Node}
use Rattle.dz_catalog.specs.Broken.{broken_records, twins}
use Rattle.dz_catalog.specs.Listing.{listing_of}
use Rattle.dz_catalog.specs.Member.{node_of}

-- a record by its type, owner and RDATA
abbrev record_of : Kind → Name → Octets → Record
record_of kind owner rdata = record { owner = owner; kind = kind; ttl = 0; rdata = rdata }

-- the catalog `c.`
abbrev apex : Name
apex = codes "c" ∷ []

-- the name of a member node, by its label
abbrev node : Octets → Name
node label = label ∷ codes "zones" ∷ apex

-- the TXT record of the version, by its RDATA
abbrev version_text : Octets → Record
version_text rdata = record_of TYPE_TXT (codes "version" ∷ apex) rdata

-- the record of version 2
abbrev version : Record
version = version_text (1 ∷ codes "2")

-- the wire form of the member zone `a.`
abbrev zone_a : Octets
zone_a = 1 ∷ 97 ∷ 0 ∷ []

-- the wire form of the member zone `b.`
abbrev zone_b : Octets
zone_b = 1 ∷ 98 ∷ 0 ∷ []

-- a member record, by its label and its zone
abbrev member : Octets → Octets → Record
member label zone = record_of TYPE_PTR (node label) zone

-- a change of ownership, by the node's label and the new catalog
abbrev coo : Octets → Octets → Record
coo label catalog = record_of TYPE_PTR (codes "coo" ∷ node label) catalog

-- a group record, by the node's label and the RDATA
abbrev group : Octets → Octets → Record
group label rdata = record_of TYPE_TXT (codes "group" ∷ node label) rdata

-- a node without properties
abbrev plain : Octets → Name → Node
plain label zone = record { label = label; zone = zone; coo = None; groups = [] }

pub nothing_listed : listing_of apex (version ∷ []) ≡ Ok []
unfolding broken_records twins some_two both_are in_order insertion node_of labels_in
nothing_listed = refl

pub without_version : listing_of apex (member (codes "m") zone_a ∷ []) ≡ Err NoVersion
unfolding broken_records twins some_two both_are in_order insertion node_of labels_in
without_version = refl

-- a version elsewhere is none, and so is one of another type
pub version_elsewhere : listing_of apex (record_of TYPE_TXT (codes "version" ∷ []) (1 ∷ codes "2")
    ∷ record_of TYPE_A (codes "version" ∷ apex) [] ∷ []) ≡ Err NoVersion
unfolding broken_records twins some_two both_are in_order insertion node_of labels_in
version_elsewhere = refl

-- two versions count before another one, and before a member twice
pub two_versions : listing_of apex (version ∷ version_text (1 ∷ codes "1") ∷ member (codes "m") zone_a
    ∷ member (codes "m") zone_b ∷ []) ≡ Err VersionTwice
unfolding broken_records twins some_two both_are in_order insertion node_of labels_in
two_versions = refl

pub version_1 : listing_of apex (version_text (1 ∷ codes "1") ∷ []) ≡ Err OtherVersion
unfolding broken_records twins some_two both_are in_order insertion node_of labels_in
version_1 = refl

-- 2 and a further string that is empty; the empty string; no string
pub more_text : listing_of apex (version_text (1 ∷ codes "2" ++ 0 ∷ []) ∷ []) ≡ Err OtherVersion
unfolding broken_records twins some_two both_are in_order insertion node_of labels_in
more_text = refl

pub empty_text : listing_of apex (version_text (0 ∷ []) ∷ []) ≡ Err OtherVersion
unfolding broken_records twins some_two both_are in_order insertion node_of labels_in
empty_text = refl

pub no_text : listing_of apex (version_text [] ∷ []) ≡ Err OtherVersion
unfolding broken_records twins some_two both_are in_order insertion node_of labels_in
no_text = refl

-- another version counts before a member twice, a member twice before a change of ownership twice
pub two_members : listing_of apex (version ∷ coo (codes "m") zone_a ∷ coo (codes "m") zone_b
    ∷ member (codes "m") zone_a ∷ member (codes "m") zone_b ∷ []) ≡ Err MemberTwice
unfolding broken_records twins some_two both_are in_order insertion node_of labels_in
two_members = refl

-- two changes of ownership at a label without a PTR, before a zone twice
pub two_owners : listing_of apex (version ∷ coo (codes "x") zone_a ∷ coo (codes "x") zone_b ∷ member (codes "m") zone_a
    ∷ member (codes "n") zone_a ∷ []) ≡ Err CooTwice
unfolding broken_records twins some_two both_are in_order insertion node_of labels_in
two_owners = refl

pub one_zone : listing_of apex
    (version ∷ member (codes "m") zone_a ∷ member (codes "n") zone_b ∷ member (codes "o") zone_a ∷ []) ≡ Err ZoneTwice
unfolding broken_records twins some_two both_are in_order insertion node_of labels_in
one_zone = refl

-- properties are read in any order of the records; groups are in the order of their octets, nodes in that of labels
pub properties : listing_of apex (group (codes "n") (codes "z") ∷ member (codes "n") zone_b ∷ coo (codes "m") zone_b
    ∷ group (codes "n") (codes "b") ∷ member (codes "m") zone_a ∷ version ∷ [])
    ≡ Ok (record { label = codes "m"; zone = codes "a" ∷ []; coo = Some (codes "b" ∷ []); groups = [] }
    ∷ record { label = codes "n"; zone = codes "b" ∷ []; coo = None; groups = codes "b" ∷ codes "z" ∷ [] } ∷ [])
unfolding broken_records twins some_two both_are in_order insertion node_of labels_in
properties = refl

-- labels that are words elsewhere are labels of member nodes
pub words_as_labels : listing_of apex (version ∷ member (codes "zones") zone_a ∷ member (codes "coo") zone_b ∷ [])
    ≡ Ok (plain (codes "coo") (codes "b" ∷ []) ∷ plain (codes "zones") (codes "a" ∷ []) ∷ [])
unfolding broken_records twins some_two both_are in_order insertion node_of labels_in
words_as_labels = refl

-- a PTR two labels below zones, at zones itself, below ext, and an address at a label make no node
pub ignored : listing_of apex (version ∷ record_of TYPE_PTR (codes "x" ∷ node (codes "m")) zone_a
    ∷ record_of TYPE_PTR (codes "zones" ∷ apex) zone_a ∷ record_of TYPE_PTR (codes "m" ∷ codes "ext" ∷ apex) zone_a
    ∷ record_of TYPE_A (node (codes "m")) (1 ∷ 2 ∷ 3 ∷ 4 ∷ []) ∷ []) ≡ Ok []
unfolding broken_records twins some_two both_are in_order insertion node_of labels_in
ignored = refl
