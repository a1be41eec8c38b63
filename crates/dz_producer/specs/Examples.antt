-- Judge: the records of a catalog, and nodes with a fault, computed by the checker.
use Rattle.std.specs.Prelude.{◌≡◌, ℕ, refl, List, [], ◌∷◌, ◌++◌, Option, Some, None, codes, replicate}
use Rattle.dz_name.specs.Name.{wire_of}
use Rattle.dz_name.specs.Numbers.{four}
use Rattle.dz_name.specs.Words.{Name, Octets}
use Rattle.dz_name.specs.declared.dns.TheConstants.{TYPE_PTR, TYPE_TXT}
use Rattle.dz_member.specs.declared.listing.Node.{Node}
use Rattle.dz_producer.specs.Faults.{produce_fault}
use Rattle.dz_producer.specs.Laws.{in_label_order}
use Rattle.dz_producer.specs.Records.{soa, uncached, node_records}
use Rattle.dz_producer.specs.declared.fault.ProduceFault.TheVariants.{LabelTwice, BadGroup, NameTooLong}
use Rattle.dz_producer.specs.declared.draft.TheConstants.Draft.{SURE}

-- the apex of the catalog c.
abbrev apex : Name
apex = codes "c" ∷ []

-- a node whose zone has one label
abbrev node_of : Octets → Octets → Option Name → List Octets → Node
node_of label zone coo groups = record { label = label; zone = zone ∷ []; coo = coo; groups = groups }

-- a node without a change of ownership and without groups
abbrev plain : Octets → Octets → Node
plain label zone = node_of label zone None []

-- a node of the zone z. with groups
abbrev with_groups : Octets → List Octets → Node
with_groups label groups = node_of label (codes "z") None groups

-- the group `edge` as a character string
abbrev edge : Octets
edge = 4 ∷ codes "edge"

-- c. 3600 SOA invalid. invalid. 7 3600 600 2147483646 0
pub soa_rdata : (soa apex 7).rdata ≡ (7 ∷ codes "invalid" ++ 0 ∷ 7 ∷ codes "invalid" ++ 0 ∷ 0 ∷ 0 ∷ 0 ∷ 7 ∷ 0 ∷ 0 ∷ 14
    ∷ 16 ∷ 0 ∷ 0 ∷ 2 ∷ 88 ∷ 127 ∷ 255 ∷ 255 ∷ 254 ∷ 0 ∷ 0 ∷ 0 ∷ 0 ∷ [])
unfolding wire_of four
soa_rdata = refl

-- m.zones.c. 0 PTR z., coo.m.zones.c. 0 PTR d. and group.m.zones.c. 0 TXT "edge"
pub records_of_a_node : node_records apex (node_of (codes "m") (codes "z") (Some (codes "d" ∷ [])) (edge ∷ []))
    ≡ uncached (codes "m" ∷ codes "zones" ∷ apex) TYPE_PTR (1 ∷ codes "z" ++ 0 ∷ [])
    ∷ uncached (codes "coo" ∷ codes "m" ∷ codes "zones" ∷ apex) TYPE_PTR (1 ∷ codes "d" ++ 0 ∷ [])
    ∷ uncached (codes "group" ∷ codes "m" ∷ codes "zones" ∷ apex) TYPE_TXT (4 ∷ codes "edge")
    ∷ []
unfolding node_records wire_of
records_of_a_node = refl

-- labels in order, and the groups of a node
pub nodes_in_order : in_label_order
    (plain (codes "n") (codes "a") ∷ with_groups (codes "m") (edge ∷ (1 ∷ codes "x") ∷ []) ∷ [])
    ≡ with_groups (codes "m") ((1 ∷ codes "x") ∷ edge ∷ []) ∷ plain (codes "n") (codes "a") ∷ []
nodes_in_order = refl

-- a label twice counts before a bad group
pub label_twice : produce_fault apex 7 (with_groups (codes "m") ([] ∷ []) ∷ plain (codes "n") (codes "a")
    ∷ plain (codes "m") (codes "b") ∷ []) ≡ Some LabelTwice
unfolding produce_fault
label_twice = refl

-- no octets, no text, another length, and a group twice
pub no_octets : produce_fault apex 7 (with_groups (codes "m") ([] ∷ []) ∷ []) ≡ Some BadGroup
unfolding produce_fault
no_octets = refl

pub no_text : produce_fault apex 7 (with_groups (codes "m") ((0 ∷ []) ∷ []) ∷ []) ≡ Some BadGroup
unfolding produce_fault
no_text = refl

pub two_strings : produce_fault apex 7 (with_groups (codes "m") ((edge ++ edge) ∷ []) ∷ []) ≡ Some BadGroup
unfolding produce_fault
two_strings = refl

pub group_twice : produce_fault apex 7 (with_groups (codes "m") (edge ∷ (1 ∷ codes "x") ∷ edge ∷ []) ∷ [])
    ≡ Some BadGroup
unfolding produce_fault
group_twice = refl

-- a label of this many octets
abbrev letters : ℕ → Octets
letters n = replicate n 97

-- an apex of 248 octets, which leaves no room for `version`, whatever the nodes
abbrev long_apex : Name
long_apex = letters 63 ∷ letters 63 ∷ letters 63 ∷ letters 54 ∷ []

pub no_room_for_version : produce_fault long_apex 7 [] ≡ Some NameTooLong
unfolding produce_fault wire_of
no_room_for_version = refl

-- the owner of a group is longer than that of a change of ownership: of these apexes one has room for the one alone
abbrev near_apex : Name
near_apex = letters 63 ∷ letters 63 ∷ letters 63 ∷ letters 46 ∷ []

pub no_room_for_group : produce_fault near_apex 7 (with_groups (codes "mmm") (edge ∷ []) ∷ []) ≡ Some NameTooLong
unfolding produce_fault wire_of node_records
no_room_for_group = refl

-- ---- the octets that a draft may have, so that they can't change
pub sure_is_66990000 : SURE ≡ 66990000
sure_is_66990000 = refl
