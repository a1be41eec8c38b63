-- Judge: what comes of some streams and records, computed by the checker.
use Rattle.std.specs.Prelude.{◌≡◌, ℕ, refl, [], ◌∷◌, ◌++◌, codes, Some, None}
use Rattle.dz_name.specs.Words.{Name, Octets}
use Rattle.dz_name.specs.Numbers.{two, number_of_two, number_of_four}
use Rattle.dz_name.specs.Reading.{name_at, name_from, element_at}
use Rattle.dz_header.specs.Header.{header_in}
use Rattle.dz_header.specs.Question.{question_at}
use Rattle.dz_header.specs.Shape.{behind_records}
use Rattle.dz_record.specs.Record.{Record}
use Rattle.dz_zone.specs.Version.{Zone}
use Rattle.dz_xfr.specs.declared.fault.ShapeFault.TheVariants.{NotSoaFirst}
use Rattle.dz_message.specs.declared.fault.MessageFault.TheVariants.{ShortHeader}
use Rattle.dz_message.specs.Frame.{frame, first_size, first_messages}
use Rattle.dz_message.specs.Reading.{question_in, many, content_of, message_of}
use Rattle.dz_take.specs.declared.ask.Ask.TheVariants.{Axfr, Ixfr}
use Rattle.dz_take.specs.declared.outcome.TakeFault.TheVariants.{Incomplete, Message, WrongId, WrongQuestion, Rcode}
use Rattle.dz_take.specs.declared.outcome.TakeFault.TheVariants.{Shape, OldSerial}
use Rattle.dz_take.specs.Form.{form}
use Rattle.dz_take.specs.Outcome.{answers, judge, decided_from, outcome}
use Rattle.dz_take.specs.Transfer.{Transfer, up_to_date, refused}

-- the apex example.
abbrev example : Name
example = codes "example" ∷ []

-- the whole zone of example. is asked for with ID 2, and none is held
abbrev whole : Transfer
whole = record { apex = example; ask = Axfr; id = 2; held = None }

-- a message of this ID and these flags, with the question of the query and no answer
abbrev empty : ℕ → ℕ → Octets
empty id low = 0 ∷ id ∷ 132 ∷ low ∷ 0 ∷ 1 ∷ 0 ∷ 0 ∷ 0 ∷ 0 ∷ 0 ∷ 0 ∷ 7 ∷ codes "example" ++ 0 ∷ 0 ∷ 252 ∷ 0 ∷ 1 ∷ []

pub no_octets : outcome whole [] ≡ refused Incomplete
unfolding first_messages decided_from
no_octets = refl

-- a part of a frame isn't looked at
pub a_part : outcome whole (0 ∷ 3 ∷ 1 ∷ []) ≡ refused Incomplete
unfolding first_messages first_size decided_from number_of_two
a_part = refl

pub an_empty_message : outcome whole (0 ∷ 0 ∷ []) ≡ refused (Message ShortHeader)
unfolding first_messages first_size decided_from judge message_of number_of_two two
an_empty_message = refl

pub no_answer : outcome whole (frame (empty 2 0)) ≡ refused (Shape NotSoaFirst)
unfolding first_messages first_size decided_from judge message_of content_of many question_in question_at
    behind_records name_at name_from element_at header_in number_of_two two form answers
no_answer = refl

pub another_id : outcome whole (frame (empty 9 5)) ≡ refused WrongId
unfolding first_messages first_size decided_from judge message_of content_of many question_in question_at
    behind_records name_at name_from element_at header_in number_of_two two form answers
another_id = refl

pub a_code : outcome whole (frame (empty 2 5)) ≡ refused (Rcode 5)
unfolding first_messages first_size decided_from judge message_of content_of many question_in question_at
    behind_records name_at name_from element_at header_in number_of_two two form answers
a_code = refl

pub no_question : outcome whole (frame (0 ∷ 2 ∷ 132 ∷ 0 ∷ 0 ∷ 0 ∷ 0 ∷ 0 ∷ 0 ∷ 0 ∷ 0 ∷ 0 ∷ [])) ≡ refused WrongQuestion
unfolding first_messages first_size decided_from judge message_of content_of many behind_records header_in
    number_of_two two form answers
no_question = refl

-- an SOA record of this serial, by its octets
abbrev soa : Octets → Record
soa serial = record {
  owner = example;
  kind = 6;
  ttl = 3600;
  rdata = 0 ∷ 0 ∷ serial ++ 0 ∷ 0 ∷ 0 ∷ 100 ∷ 0 ∷ 0 ∷ 0 ∷ 60 ∷ 0 ∷ 0 ∷ 2 ∷ 88 ∷ 0 ∷ 0 ∷ 0 ∷ 30 ∷ [];
}

-- the held version, of serial 5
abbrev held : Zone
held = record { apex = example; records = soa (0 ∷ 0 ∷ 0 ∷ 5 ∷ []) ∷ [] }

-- its differences are asked for with ID 4
abbrev beside : Transfer
beside = record { apex = example; ask = Ixfr; id = 4; held = Some held }

pub the_held_serial : form beside (soa (0 ∷ 0 ∷ 0 ∷ 5 ∷ []) ∷ []) ≡ Some up_to_date
unfolding form number_of_four
the_held_serial = refl

pub half_way_round : form beside (soa (128 ∷ 0 ∷ 0 ∷ 5 ∷ []) ∷ []) ≡ Some (refused (OldSerial 2147483653))
unfolding form number_of_four
half_way_round = refl

pub a_newer_serial : form beside (soa (0 ∷ 0 ∷ 0 ∷ 6 ∷ []) ∷ []) ≡ None
unfolding form number_of_four
a_newer_serial = refl
