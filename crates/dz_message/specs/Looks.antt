-- Meaning: how many looks a message takes at least: at each label of its names and at what ends them (RFC 1035 section
-- 4.1.4).
use Rattle.std.specs.Prelude.{ℕ, ◌+◌, List, length}
use Rattle.std.specs.List.{sum_by}
use Rattle.dz_name.specs.Words.{Name, Kind}
use Rattle.dz_header.specs.declared.question.Question.{Question}
use Rattle.dz_record.specs.declared.fields.Field.{Field}
use Rattle.dz_record.specs.declared.fields.Field.TheVariants.{FixedLength, DomainName, CharacterString, Remainder}
use Rattle.dz_record.specs.Fields.{fields_of}
use Rattle.dz_record.specs.Record.{Record}
use Rattle.dz_message.specs.Message.{Content}

-- each label of a name, and its end
abbrev pub looks_of : Name → ℕ
looks_of name = length name + 1

-- the end of a name in RDATA, and the length octet of a string
abbrev pub looks_of_field : Field → ℕ
looks_of_field (FixedLength count) = 0
looks_of_field DomainName = 1
looks_of_field CharacterString = 1
looks_of_field Remainder = 0

-- the fields of a type
abbrev pub looks_of_kind : Kind → ℕ
looks_of_kind kind = sum_by looks_of_field (fields_of kind)

-- the names of questions
abbrev pub looks_of_questions : List Question → ℕ
looks_of_questions questions = sum_by (λ q. looks_of q.name) questions

-- the owner names and the fields of records
abbrev pub looks_of_answers : List Record → ℕ
looks_of_answers answers = sum_by (λ r. looks_of r.owner + looks_of_kind r.kind) answers

-- the questions and the answers of a message
abbrev pub fewest_looks : Content → ℕ
fewest_looks m = looks_of_questions m.questions + looks_of_answers m.answers
