-- Meaning: a catalog without some of its nodes and with others, and the difference that leads to it (RFC 1995 section
-- 4).
use Rattle.std.specs.Prelude.{◌≡◌, ℕ, Bool, ◌||◌, not, nat_lt, List, [], ◌∷◌, ◌++◌, length, filter, flat_map, Option}
use Rattle.std.specs.Prelude.{Some, None, Result, Ok, Err, if◌then◌else◌}
use Rattle.std.specs.List.{list_any, list_all}
use Rattle.dz_name.specs.Name.{same_label}
use Rattle.dz_name.specs.Words.{Name, Octets}
use Rattle.dz_name.specs.declared.dns.TheConstants.{CLASS_IN, TYPE_IXFR, TRANSFER_OCTETS}
use Rattle.dz_serial.specs.Serial.{is_newer}
use Rattle.dz_header.specs.declared.question.Question.{Question}
use Rattle.dz_record.specs.Record.{Record}
use Rattle.dz_message.specs.Frame.{stream}
use Rattle.dz_message.specs.Piece.{packed, written}
use Rattle.dz_zone.specs.Version.{Zone}
use Rattle.dz_xfr.specs.Apex.{held_serial}
use Rattle.dz_settings.specs.Twice.{has_twice}
use Rattle.dz_member.specs.declared.listing.Node.{Node}
use Rattle.dz_member.specs.declared.listing.Broken.{Broken}
use Rattle.dz_catalog.specs.Listing.{listing_of}
use Rattle.dz_producer.specs.Faults.{produce_fault}
use Rattle.dz_producer.specs.Produced.{produced}
use Rattle.dz_producer.specs.Records.{soa, plain_records, node_records, digest}
use Rattle.dz_producer.specs.declared.fault.ProduceFault.{ProduceFault}
use Rattle.dz_producer.specs.declared.fault.AmendFault.{AmendFault}
use Rattle.dz_producer.specs.declared.fault.AmendFault.TheVariants.{OldSerial, NoLabel, Produce, TooLong}

-- the nodes that a zone lists; a broken catalog lists none
abbrev pub nodes_in : Result (List Node) Broken → List Node
nodes_in (Ok nodes) = nodes
nodes_in (Err reason) = []

-- the nodes that a zone lists as a catalog (RFC 9432 section 4)
abbrev pub listed : Zone → List Node
listed zone = nodes_in (listing_of zone.apex zone.records)

-- the zone is the catalog that is made of its apex, its serial and the nodes that it lists
pub record IsCatalog (zone : Zone) : Type 0 where
  pub lists : listing_of zone.apex zone.records ≡ Ok (listed zone)
  pub faultless : produce_fault zone.apex (held_serial zone) (listed zone) ≡ None
  pub made : zone ≡ produced zone.apex (held_serial zone) (listed zone)

-- such a catalog with this serial
abbrev pub IsCatalogOf : ℕ → Zone → Type 0
IsCatalogOf serial zone = IsCatalog zone × (held_serial zone ≡ serial)

-- ---- the nodes that go and those that stay
-- whether a node's label is among those that are dropped
abbrev pub is_dropped : List Octets → Node → Bool
is_dropped dropped node = list_any (same_label node.label) dropped

-- the nodes that go
abbrev pub gone : Zone → List Octets → List Node
gone old dropped = filter (is_dropped dropped) (listed old)

-- the nodes that stay
abbrev pub kept : Zone → List Octets → List Node
kept old dropped = filter (λ node. not (is_dropped dropped node)) (listed old)

-- the nodes after the change
abbrev pub nodes_after : Zone → List Octets → List Node → List Node
nodes_after old dropped added = kept old dropped ++ added

-- whether a label is that of a node
abbrev pub is_listed : Zone → Octets → Bool
is_listed old label = list_any (λ node. same_label node.label label) (listed old)

-- a dropped label is that of no node, or is there twice
abbrev pub no_label : Zone → List Octets → Bool
no_label old dropped = has_twice same_label dropped || not (list_all (is_listed old) dropped)

-- ---- the difference: new SOA, old SOA, what goes, new SOA, what comes, new SOA (RFC 1995 section 4)
-- the ZONEMD record of the catalog of these nodes
abbrev pub digest_of : Name → ℕ → List Node → Record
digest_of apex serial nodes = digest apex serial (plain_records apex serial nodes)

-- what goes: the records of the nodes that go, and the old digest
abbrev pub deleted : Zone → List Octets → List Record
deleted old dropped =
    flat_map (node_records old.apex) (gone old dropped) ++ digest_of old.apex (held_serial old) (listed old) ∷ []

-- what comes: the records of the added nodes, and the new digest
abbrev pub added_records : Zone → ℕ → List Octets → List Node → List Record
added_records old serial dropped added =
    flat_map (node_records old.apex) added ++ digest_of old.apex serial (nodes_after old dropped added) ∷ []

-- the records of the difference, in their order
unfoldable pub difference : Zone → ℕ → List Octets → List Node → List Record
difference old serial dropped added =
    soa old.apex serial ∷ soa old.apex (held_serial old) ∷ (deleted old dropped ++ soa old.apex serial
    ∷ (added_records old serial dropped added ++ soa old.apex serial ∷ []))

-- the question for a difference
abbrev pub question_of : Zone → Question
question_of zone = record { name = zone.apex; kind = TYPE_IXFR; class = CLASS_IN }

-- the octets of the difference's stream, with ID 0
abbrev pub difference_octets : Zone → ℕ → List Octets → List Node → Octets
difference_octets old serial dropped added =
    stream (written (packed 0 (question_of old ∷ []) [] (difference old serial dropped added)))

-- ---- the first fault that holds
-- a fault of the new nodes, or else that the stream is too long
abbrev pub after_nodes : Option ProduceFault → Bool → Option AmendFault
after_nodes (Some fault) too_long = Some (Produce fault)
after_nodes None too_long = if too_long then Some TooLong else None

-- the first fault: the serial isn't newer, a dropped label can't go, the nodes have a fault, the stream is too long
unfoldable pub amend_fault : Zone → ℕ → List Octets → List Node → Option AmendFault
amend_fault old serial dropped added =
    if not (is_newer (held_serial old) serial) then Some OldSerial
    else if no_label old dropped then Some NoLabel
    else after_nodes (produce_fault old.apex serial (nodes_after old dropped added))
    (nat_lt TRANSFER_OCTETS (length (difference_octets old serial dropped added)))
