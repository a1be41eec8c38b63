-- Meaning: what a message says (RFC 1035 section 4.1): header, questions and answer records.
use Rattle.std.specs.Prelude.{List}
use Rattle.dz_header.specs.declared.header.Header.{Header}
use Rattle.dz_record.specs.Record.{Record}
use Rattle.dz_header.specs.declared.question.Question.{Question}

-- the header, questions and answer records of a message
pub record Content : Type 0 where
  pub header : Header
  pub questions : List Question
  pub answers : List Record
