-- Meaning: a message as octets, with names without pointers (RFC 1035 section 4.1).
use Rattle.std.specs.Prelude.{◌≡◌, [], ◌∷◌, ◌++◌, length, ◌<◌, ◌^◌}
use Rattle.std.specs.List.{flat_map, All, AllByRecursion}
use Rattle.dz_name.specs.Name.{wire_of, IsName}
use Rattle.dz_name.specs.Numbers.{two}
use Rattle.dz_header.specs.declared.header.Header.{Header}
use Rattle.dz_header.specs.Header.{header_octets}
use Rattle.dz_record.specs.Record.{IsRecord, record_octets}
use Rattle.dz_header.specs.declared.question.Question.{Question}
use Rattle.dz_message.specs.Message.{Content}
use Rattle.dz_name.specs.Words.{Octets}

-- a question as octets: name, type and class (RFC 1035 section 4.1.2)
unfoldable pub question_octets : Question → Octets
question_octets q = wire_of q.name ++ (two q.kind ++ two q.class)

-- a message as octets: header, questions and answer records
unfoldable pub message_octets : Content → Octets
message_octets m = header_octets m.header ++ (flat_map question_octets m.questions ++ flat_map record_octets m.answers)

-- the header counts the questions and answers that there are, and no other records
abbrev pub CountsAgree : Content → Type 0
CountsAgree m = m.header.counts ≡ length m.questions ∷ length m.answers ∷ 0 ∷ 0 ∷ []

-- a question in memory: a name, and two 16-bit numbers
pub record IsAsking (q : Question) : Type 0 where
  pub name : IsName q.name
  pub kind : q.kind < 2 ^ 16
  pub class : q.class < 2 ^ 16

-- a header in memory: each of its six numbers has 16 bits
pub record IsHeader (header : Header) : Type 0 where
  pub id : header.id < 2 ^ 16
  pub flags : header.flags < 2 ^ 16
  pub counts : AllByRecursion (λ n. n < 2 ^ 16) header.counts

-- a message in memory: each of its parts is one
pub record IsHeldMessage (m : Content) : Type 0 where
  pub header : IsHeader m.header
  pub questions : All IsAsking m.questions
  pub answers : All IsRecord m.answers
