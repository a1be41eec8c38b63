-- Meaning: the messages of the generated transfers, and their requests (RFC 5936 section 2.2, RFC 1995 section 4).
use Rattle.std.specs.Prelude.{ℕ, ◌++◌, List, [], ◌∷◌, length, codes}
use Rattle.dz_name.specs.Words.{Name, Kind, Octets}
use Rattle.dz_name.specs.declared.dns.TheConstants.{TYPE_A, TYPE_NS, TYPE_AXFR, TYPE_IXFR, CLASS_IN}
use Rattle.dz_name.specs.Name.{wire_of}
use Rattle.dz_header.specs.declared.question.Question.{Question}
use Rattle.dz_record.specs.Record.{Record}
use Rattle.dz_message.specs.Message.{Content}
use Rattle.dz_message.specs.Writing.{message_octets}
use Rattle.dz_message.specs.Frame.{frame}
use Rattle.dz_gen.specs.Texts.{named}
use Rattle.dz_gen.specs.Records.{hourly, soa, catalog, version_property, node, group, member, zone, first_records}
use Rattle.dz_gen.specs.Records.{first_digest, second_digest, mail}

-- a question of class IN
abbrev pub question : Name → Kind → Question
question name kind = record { name = name; kind = kind; class = CLASS_IN }

-- a message of these questions and answers, with their counts (RFC 1035 section 4.1)
abbrev pub message : ℕ → ℕ → List Question → List Record → Content
message id flags questions answers =
    record {
      header = record { id = id; flags = flags; counts = length questions ∷ length answers ∷ 0 ∷ 0 ∷ [] };
      questions = questions;
      answers = answers;
    }

-- a response with authority, flags 8400, preceded by its length (RFC 1035 section 4.2.2)
abbrev pub response : ℕ → List Question → List Record → Octets
response id questions answers = frame (message_octets (message id 33792 questions answers))

-- a query for an address
abbrev pub query : ℕ → Name → Octets
query id name = message_octets (message id 0 (question name TYPE_A ∷ []) [])

-- ---- the catalog
-- the first message of the catalog's transfer: SOA, NS and version
abbrev pub catalog_begins : Octets
catalog_begins = response 1 (question catalog TYPE_AXFR ∷ [])
    (soa catalog 1 ∷ hourly catalog TYPE_NS (wire_of (named (codes "invalid."))) ∷ version_property ∷ [])

-- the message of one member of the catalog
abbrev pub catalog_member : ℕ → Octets
catalog_member k = response 1 [] (member k)

-- the last message of the catalog's transfer: the closing SOA
abbrev pub catalog_ends : Octets
catalog_ends = response 1 [] (soa catalog 1 ∷ [])

-- the catalog's change as an IXFR: the first member comes under another label (RFC 1995 section 4)
abbrev pub catalog_changes : ℕ → Octets
catalog_changes id = response id (question catalog TYPE_IXFR ∷ [])
    (soa catalog 2 ∷ soa catalog 1 ∷ node (codes "m") 1 ∷ group 1 ∷ soa catalog 2 ∷ node (codes "r") 1
    ∷ soa catalog 2 ∷ [])

-- ---- a zone

-- a transfer that breaks off before the closing SOA
abbrev pub part_of : ℕ → ℕ → Octets
part_of id k = response id (question (zone k) TYPE_AXFR ∷ []) (first_records k ++ first_digest k)

-- a whole transfer, with the closing SOA (RFC 5936 section 2.2)
abbrev pub whole_of : ℕ → ℕ → Octets
whole_of id k =
    response id (question (zone k) TYPE_AXFR ∷ []) ((first_records k ++ first_digest k) ++ soa (zone k) 1 ∷ [])

-- the records of the difference from serial 1 to serial 2 (RFC 1995 section 4)
abbrev pub changes : ℕ → List Record
changes k =
    ((((soa (zone k) 2 ∷ soa (zone k) 1 ∷ []) ++ first_digest k) ++ soa (zone k) 2 ∷ mail k ∷ []) ++ second_digest k)
    ++ soa (zone k) 2 ∷ []

-- the message with that difference
abbrev pub changes_of : ℕ → ℕ → Octets
changes_of id k = response id (question (zone k) TYPE_IXFR ∷ []) (changes k)
