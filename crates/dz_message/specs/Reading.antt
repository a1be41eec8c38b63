-- Meaning: a message read from left to right, with the first fault that is found (RFC 1035 section 4.1).
use Rattle.std.specs.Prelude.{ℕ, zero, suc, ◌+◌, ◌-◌, Bool, ◌==◌, ◌||◌, not, nat_le, nat_lt, List, [], ◌∷◌, ◌++◌}
use Rattle.std.specs.Prelude.{length, take, drop, slice_index, Option, Some, None, Result, Ok, Err, if◌then◌else◌}
use Rattle.dz_name.specs.Name.{wire_of}
use Rattle.dz_name.specs.Reading.{name_at}
use Rattle.dz_header.specs.declared.header.Header.{Header}
use Rattle.dz_header.specs.Header.{header_in}
use Rattle.dz_header.specs.Shape.{behind_records}
use Rattle.dz_record.specs.declared.fields.Field.{Field}
use Rattle.dz_record.specs.declared.fields.Field.TheVariants.{FixedLength, DomainName, CharacterString, Remainder}
use Rattle.dz_record.specs.Fields.{fields_of}
use Rattle.dz_record.specs.Record.{Record, is_bad_type, ttl_of}
use Rattle.dz_message.specs.declared.fault.MessageFault.{MessageFault}
use Rattle.dz_message.specs.declared.fault.MessageFault.TheVariants.{Wire, ShortHeader, BadRdata, BadType, Trailing}
use Rattle.dz_header.specs.declared.question.Question.{Question}
use Rattle.dz_header.specs.Question.{question_at}
use Rattle.dz_header.specs.RecordHead.{head_of}
use Rattle.dz_header.specs.declared.record_head.RecordHead.{RecordHead}
use Rattle.dz_header.specs.declared.record_head.TheConstants.{HEAD_OCTETS}
use Rattle.dz_name.specs.declared.wire_fault.WireFault.{WireFault}
use Rattle.dz_name.specs.declared.dns.TheConstants.{CLASS_IN, HEADER_OCTETS, MESSAGE_OCTETS}
use Rattle.dz_message.specs.Message.{Content}
use Rattle.dz_name.specs.Words.{Octets}

infixl 10 ◌>>=◌
-- one reader after another; the first fault is the fault of the whole
abbrev pub ◌>>=◌ : {A B : Type 0} → Result A MessageFault → (A → Result B MessageFault) → Result B MessageFault
(Ok x) >>= f = f x
(Err e) >>= f = Err e

-- every fault of a name is the fault Wire of the message
abbrev pub named : {X : Type 0} → Result X WireFault → Result X MessageFault
named (Ok x) = Ok x
named (Err fault) = Err Wire

-- missing octets are the fault Wire, too
abbrev pub all_there : {X : Type 0} → Option X → Result X MessageFault
all_there (Some x) = Ok x
all_there None = Err Wire

-- the question at an offset and the offset after it (RFC 1035 section 4.1.2)
unfoldable pub question_in : Octets → ℕ → Result (Question × ℕ) MessageFault
question_in m at = named (question_at m at)

-- type, class, TTL and length of RDATA, the ten octets after an owner name
unfoldable pub head_at : Octets → ℕ → Result RecordHead MessageFault
head_at m at = all_there (head_of (drop at m))

-- this many octets of RDATA that ends at `end`, and the offset after them
unfoldable pub octets_at : Octets → ℕ → ℕ → ℕ → Result (Octets × ℕ) MessageFault
octets_at m at end count = if nat_le count (end - at) then Ok (take count (drop at m), at + count) else Err BadRdata

-- a name within RDATA, in canonical form: it is read in the whole message, and ends within the RDATA
unfoldable pub name_within : Octets → ℕ → ℕ → Result (Octets × ℕ) MessageFault
name_within m at end = do
  name ← named (name_at m at)
  if nat_le name.1 end then Ok (wire_of name.0, name.1) else Err BadRdata

-- the canonical form of a field of RDATA that ends at `end`, and the offset after it
abbrev pub field_at : Octets → ℕ → ℕ → Field → Result (Octets × ℕ) MessageFault
field_at m at end (FixedLength count) = octets_at m at end count
field_at m at end DomainName = name_within m at end
field_at m at end CharacterString = octets_at m at end (slice_index m at + 1)
field_at m at end Remainder = octets_at m at end (end - at)

-- the canonical form of the fields that are between `at` and `end`, with nothing after them
unfoldable pub rdata_at : Octets → ℕ → ℕ → List Field → Result Octets MessageFault
rdata_at m at end [] = if at == end then Ok [] else Err BadRdata
rdata_at m at end (field ∷ fields) = do
  piece ← field_at m at end field
  rest ← rdata_at m piece.1 end fields
  Ok (piece.0 ++ rest)

-- a record of a class other than IN, or of a type that no zone holds, which is judged before its RDATA
abbrev pub is_bad_kind : RecordHead → Bool
is_bad_kind head = not (head.class == CLASS_IN) || is_bad_type head.kind

-- RDATA that is complete, in canonical form, of at most 65,535 octets
unfoldable pub rdata_of : Octets → ℕ → RecordHead → Result Octets MessageFault
rdata_of m at head =
    if is_bad_kind head then Err BadType
    else if nat_lt (length m) (at + head.size) then Err Wire
    else rdata_at m at (at + head.size) (fields_of head.kind) >>= λ rdata. if nat_le (length rdata) MESSAGE_OCTETS
    then Ok rdata else Err BadRdata

-- the record at an offset and the offset after it (RFC 1035 section 4.1.3)
unfoldable pub record_at : Octets → ℕ → Result (Record × ℕ) MessageFault
record_at m at = do
  owner ← named (name_at m at)
  head ← head_at m owner.1
  rdata ← rdata_of m (owner.1 + HEAD_OCTETS) head
  Ok (
    record { owner = owner.0; kind = head.kind; ttl = ttl_of head.ttl; rdata = rdata },
    owner.1 + HEAD_OCTETS + head.size,
  )

-- this many of a kind, one after the other, and the offset after them
unfoldable pub many : {X : Type 0} → (ℕ → Result (X × ℕ) MessageFault) → ℕ → ℕ → Result (List X × ℕ) MessageFault
many one zero at = Ok ([], at)
many one (suc count) at = do
  first ← one at
  others ← many one count first.1
  Ok (first.0 ∷ others.0, others.1)

-- the other records are skipped by their shape, and nothing follows them
abbrev pub ended : Option Octets → Result Octets MessageFault
ended None = Err Wire
ended (Some rest) = if length rest == 0 then Ok rest else Err Trailing

-- the count of a section in the header: 0 questions, 1 answers, 2 authority, 3 additional
abbrev pub count_in : Header → ℕ → ℕ
count_in header k = slice_index header.counts k

-- what a message with this header says: its questions, its answers, and only skipped records after them
unfoldable pub content_of : Octets → Header → Result Content MessageFault
content_of m header = do
  questions ← many (question_in m) (count_in header 0) HEADER_OCTETS
  answers ← many (record_at m) (count_in header 1) questions.1
  rest ← ended (behind_records (count_in header 2 + count_in header 3) (drop answers.1 m))
  Ok (record { header = header; questions = questions.0; answers = answers.0 })

-- the message that the octets spell, or the first fault where they spell none
unfoldable pub message_of : Octets → Result Content MessageFault
message_of m = if nat_lt (length m) HEADER_OCTETS then Err ShortHeader else content_of m (header_in m)
