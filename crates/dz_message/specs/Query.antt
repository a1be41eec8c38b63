-- Meaning: the query for a transfer (RFC 5936 section 2.1, RFC 1995 section 3).
use Rattle.std.specs.Prelude.{◌≡◌, ⊤, ℕ, [], ◌∷◌, ◌++◌, Option, Some, None}
use Rattle.std.specs.Option.{option_map_or}
use Rattle.dz_name.specs.Words.{Name, Octets, Kind}
use Rattle.dz_name.specs.declared.dns.TheConstants.{TYPE_AXFR, TYPE_IXFR, TYPE_SOA, CLASS_IN}
use Rattle.dz_header.specs.declared.header.Header.{Header}
use Rattle.dz_header.specs.declared.question.Question.{Question}
use Rattle.dz_header.specs.Header.{header_octets}
use Rattle.dz_record.specs.Record.{Record, IsRecord, record_octets}
use Rattle.dz_message.specs.Message.{Content}
use Rattle.dz_message.specs.Writing.{question_octets}

-- IXFR where an SOA record is held, and otherwise AXFR for the whole zone
abbrev pub query_kind : Option Record → Kind
query_kind None = TYPE_AXFR
query_kind (Some held) = TYPE_IXFR

-- the header of the query: one question, and the held SOA record in the authority section
abbrev pub query_header : ℕ → Option Record → Header
query_header id None = record { id = id; flags = 0; counts = 1 ∷ 0 ∷ 0 ∷ 0 ∷ [] }
query_header id (Some held) = record { id = id; flags = 0; counts = 1 ∷ 0 ∷ 1 ∷ 0 ∷ [] }

-- the question of the query: the zone's name, the query type and class IN
abbrev pub query_question : Name → Option Record → Question
query_question zone held = record { name = zone; kind = query_kind held; class = CLASS_IN }

-- the query as octets, with names without pointers
unfoldable pub query_octets : ℕ → Name → Option Record → Octets
query_octets id zone held = header_octets (query_header id held)
    ++ (question_octets (query_question zone held) ++ option_map_or record_octets held [])

-- the query as it is read: the authority section is skipped
abbrev pub query_content : ℕ → Name → Option Record → Content
query_content id zone held =
    record { header = query_header id held; questions = query_question zone held ∷ []; answers = [] }

-- a held record is an SOA
abbrev pub IsHeldSoa : Option Record → Type 0
IsHeldSoa None = ⊤
IsHeldSoa (Some held) = held.kind ≡ TYPE_SOA

-- a held record is one that a zone may hold
abbrev pub IsHeld : Option Record → Type 0
IsHeld None = ⊤
IsHeld (Some held) = IsRecord held
