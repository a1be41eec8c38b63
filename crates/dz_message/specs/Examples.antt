-- Judge: messages and their frames, read and written, computed by the checker.
use Rattle.std.specs.Prelude.{◌≡◌, refl, [], ◌∷◌, ◌++◌, codes, Ok, Err, Some, None, ℕ, ◌+◌, List, map, length, Result}
use Rattle.dz_name.specs.Words.{Name, Octets}
use Rattle.dz_name.specs.Name.{wire_of}
use Rattle.dz_name.specs.Numbers.{two, four, number_of_two, number_of_four}
use Rattle.dz_name.specs.Reading.{name_at, name_from, element_at}
use Rattle.dz_header.specs.Header.{header_in, header_octets}
use Rattle.dz_header.specs.Question.{question_at}
use Rattle.dz_header.specs.RecordHead.{head_in}
use Rattle.dz_header.specs.Shape.{behind_records, shape_of, behind_owner, behind_head}
use Rattle.dz_record.specs.Fields.{fields_of}
use Rattle.dz_message.specs.declared.fault.MessageFault.TheVariants.{Wire, ShortHeader, Trailing, BadRdata, BadType}
use Rattle.dz_message.specs.Message.{Content}
use Rattle.dz_message.specs.Reading.{octets_at, head_at, rdata_at, rdata_of, record_at, question_in, many, content_of}
use Rattle.dz_message.specs.Reading.{message_of, name_within}
use Rattle.dz_message.specs.Writing.{question_octets, message_octets}
use Rattle.dz_record.specs.Record.{Record}
use Rattle.dz_message.specs.Frame.{stream, first_size, frame_at, first_messages, messages_in}
use Rattle.dz_message.specs.Query.{query_octets}
use Rattle.dz_message.specs.declared.fault.MessageFault.{MessageFault}
use Rattle.dz_message.specs.Fault.{fault_number}
use Rattle.dz_name.specs.declared.dns.TheConstants.{MESSAGE_OCTETS}
use Rattle.dz_message.specs.declared.piece.TheConstants.{PIECE_OCTETS, ANSWER_FLAGS, COUNT_AT}
use Rattle.dz_message.specs.Piece.{packed, written, size_of}
use Rattle.dz_message.specs.Looks.{fewest_looks}
use Rattle.dz_message.specs.declared.read.TheConstants.{LOOKS}

-- the name example.
abbrev example : Name
example = codes "example" ∷ []

-- ID 1, the question for a transfer of eXample., and an address record of the same name by a pointer
abbrev transfer : Octets
transfer = 0 ∷ 1 ∷ 132 ∷ 0 ∷ 0 ∷ 1 ∷ 0 ∷ 1 ∷ 0 ∷ 0 ∷ 0 ∷ 0 ∷ 7 ∷ 101 ∷ 88 ∷ 97 ∷ 109 ∷ 112 ∷ 108 ∷ 101 ∷ 0 ∷ 0 ∷ 252
    ∷ 0 ∷ 1 ∷ 192 ∷ 12 ∷ 0 ∷ 1 ∷ 0 ∷ 1 ∷ 0 ∷ 0 ∷ 14 ∷ 16 ∷ 0 ∷ 4 ∷ 192 ∷ 0 ∷ 2 ∷ 1 ∷ []

-- what this message says
abbrev content : Content
content = record {
  header = record { id = 1; flags = 0x8400; counts = 1 ∷ 1 ∷ 0 ∷ 0 ∷ [] };
  questions = record { name = example; kind = 252; class = 1 } ∷ [];
  answers = record { owner = example; kind = 1; ttl = 3600; rdata = 192 ∷ 0 ∷ 2 ∷ 1 ∷ [] } ∷ [];
}

-- names are read in lower case and without pointers
pub is_read : message_of transfer ≡ Ok content
unfolding message_of content_of many question_in question_at record_at head_at head_in rdata_of rdata_at octets_at
    fields_of behind_records name_at name_from element_at header_in number_of_two number_of_four
is_read = refl

-- an additional octet is a fault, and so are octets that are missing
pub an_octet_more : message_of (transfer ++ 0 ∷ []) ≡ Err Trailing
unfolding message_of content_of many question_in question_at record_at head_at head_in rdata_of rdata_at octets_at
    fields_of behind_records name_at name_from element_at header_in number_of_two number_of_four
an_octet_more = refl

pub eleven_octets : message_of (0 ∷ 1 ∷ 132 ∷ 0 ∷ 0 ∷ 1 ∷ 0 ∷ 1 ∷ 0 ∷ 0 ∷ 0 ∷ []) ≡ Err ShortHeader
unfolding message_of
eleven_octets = refl

pub no_question_there : message_of (0 ∷ 1 ∷ 132 ∷ 0 ∷ 0 ∷ 1 ∷ 0 ∷ 0 ∷ 0 ∷ 0 ∷ 0 ∷ 0 ∷ []) ≡ Err Wire
unfolding message_of content_of many question_in question_at name_at name_from element_at header_in number_of_two
no_question_there = refl

-- the message as it is written, without pointers
pub is_written : message_octets content
    ≡ 0 ∷ 1 ∷ 132 ∷ 0 ∷ 0 ∷ 1 ∷ 0 ∷ 1 ∷ 0 ∷ 0 ∷ 0 ∷ 0 ∷ 7 ∷ codes "example" ++ 0 ∷ 0 ∷ 252 ∷ 0 ∷ 1 ∷ 7
    ∷ codes "example" ++ 0 ∷ 0 ∷ 1 ∷ 0 ∷ 1 ∷ 0 ∷ 0 ∷ 14 ∷ 16 ∷ 0 ∷ 4 ∷ 192 ∷ 0 ∷ 2 ∷ 1 ∷ []
unfolding message_octets question_octets header_octets wire_of two four
is_written = refl

-- two messages preceded by their lengths, and part of a third
abbrev frames : Octets
frames = 0 ∷ 3 ∷ 10 ∷ 20 ∷ 30 ∷ 0 ∷ 0 ∷ 0 ∷ 2 ∷ 40 ∷ []

pub behind_their_lengths : stream ((10 ∷ 20 ∷ 30 ∷ []) ∷ [] ∷ []) ≡ 0 ∷ 3 ∷ 10 ∷ 20 ∷ 30 ∷ 0 ∷ 0 ∷ []
unfolding two
behind_their_lengths = refl

pub the_first : frame_at frames 0 ≡ Some (2, 5)
unfolding frame_at first_size number_of_two
the_first = refl

pub the_empty_one : frame_at frames 5 ≡ Some (7, 7)
unfolding frame_at first_size number_of_two
the_empty_one = refl

pub a_part : frame_at frames 7 ≡ None
unfolding frame_at first_size number_of_two
a_part = refl

pub past_the_end : frame_at frames 11 ≡ None
unfolding frame_at first_size
past_the_end = refl

pub the_whole_ones : messages_in frames ≡ (10 ∷ 20 ∷ 30 ∷ []) ∷ [] ∷ []
unfolding first_messages first_size number_of_two
the_whole_ones = refl

-- queries for example.
pub query_for_all : query_octets 1 example None
    ≡ 0 ∷ 1 ∷ 0 ∷ 0 ∷ 0 ∷ 1 ∷ 0 ∷ 0 ∷ 0 ∷ 0 ∷ 0 ∷ 0 ∷ 7 ∷ codes "example" ++ 0 ∷ 0 ∷ 252 ∷ 0 ∷ 1 ∷ []
unfolding query_octets question_octets header_octets wire_of two
query_for_all = refl

-- an SOA record with serial 5
abbrev soa : Record
soa = record {
  owner = example;
  kind = 6;
  ttl = 3600;
  rdata = 2 ∷ codes "ns" ++ 0 ∷ 4 ∷ codes "host" ++ 0 ∷ 0 ∷ 0 ∷ 0 ∷ 5 ∷ 0 ∷ 0 ∷ 0 ∷ 100 ∷ 0 ∷ 0 ∷ 0 ∷ 60 ∷ 0 ∷ 0 ∷ 2
      ∷ 88 ∷ 0 ∷ 0 ∷ 0 ∷ 30 ∷ [];
}

pub query_for_differences : query_octets 258 example (Some soa)
    ≡ 1 ∷ 2 ∷ 0 ∷ 0 ∷ 0 ∷ 1 ∷ 0 ∷ 0 ∷ 0 ∷ 1 ∷ 0 ∷ 0 ∷ 7 ∷ codes "example" ++ 0 ∷ 0 ∷ 251 ∷ 0 ∷ 1 ∷ 7 ∷ codes "example"
    ++ 0 ∷ 0 ∷ 6 ∷ 0 ∷ 1 ∷ 0 ∷ 0 ∷ 14 ∷ 16 ∷ 0 ∷ 30 ∷ 2 ∷ codes "ns" ++ 0 ∷ 4 ∷ codes "host" ++ 0 ∷ 0 ∷ 0 ∷ 0 ∷ 5 ∷ 0
    ∷ 0 ∷ 0 ∷ 100 ∷ 0 ∷ 0 ∷ 0 ∷ 60 ∷ 0 ∷ 0 ∷ 2 ∷ 88 ∷ 0 ∷ 0 ∷ 0 ∷ 30 ∷ []
unfolding query_octets question_octets header_octets wire_of two four
query_for_differences = refl

-- ---- what is read
-- all that computes a reading: whoever unfolds `read` unfolds its whole list
read : Octets → Result Content MessageFault
unfolding message_of content_of many question_in question_at record_at head_at head_in rdata_of rdata_at name_within
    octets_at fields_of behind_records shape_of behind_owner behind_head name_at name_from element_at header_in
    number_of_two number_of_four wire_of
read octets = message_of octets

-- the header of an answer with one record, and the question for a transfer of Example.
abbrev asking : Octets
asking = 0 ∷ 1 ∷ 132 ∷ 0 ∷ 0 ∷ 1 ∷ 0 ∷ 1 ∷ 0 ∷ 0 ∷ 0 ∷ 0 ∷ 7 ∷ codes "Example" ++ 0 ∷ 0 ∷ 252 ∷ 0 ∷ 1 ∷ []

abbrev with_answers : ℕ → List Record → Content
with_answers count answers = record {
  header = record { id = 1; flags = 0x8400; counts = 1 ∷ count ∷ 0 ∷ 0 ∷ [] };
  questions = record { name = example; kind = 252; class = 1 } ∷ [];
  answers = answers;
}

-- names in RDATA may be pointers, and come in lower case
pub names_in_rdata : message_of (asking ++ 192 ∷ 12 ∷ 0 ∷ 2 ∷ 0 ∷ 1 ∷ 0 ∷ 1 ∷ 81 ∷ 128 ∷ 0 ∷ 6 ∷ 3 ∷
    codes "Ns1" ++ 192 ∷ 12 ∷ [])
    ≡ Ok (with_answers 1 (record {
      owner = example;
      kind = 2;
      ttl = 86400;
      rdata = 3 ∷ codes "ns1" ++ 7 ∷
          codes "example" ++ 0 ∷ [];
    } ∷ []))
unfolding read
names_in_rdata = refl

-- the chain is RDATA of the first answer, from offset 36 on: to 12, and twice to the pointer before; the owner of the
-- second leads to its last one
abbrev chain : Octets
chain = (0 ∷ 1 ∷ 132 ∷ 0 ∷ 0 ∷ 1 ∷ 0 ∷ 2 ∷ 0 ∷ 0 ∷ 0 ∷ 0 ∷ 7 ∷ codes "Example" ++ 0 ∷ 0 ∷ 252 ∷ 0 ∷ 1 ∷ []) ++ (0 ∷
    255 ∷ 0 ∷ 0 ∷ 1 ∷ 0 ∷ 0 ∷ 0 ∷ 0 ∷ 0 ∷ 6 ∷ 192 ∷ 12 ∷ 192 ∷ 36 ∷ 192 ∷ 38 ∷ []) ++ 192 ∷ 40 ∷ 0 ∷ 1 ∷ 0 ∷ 1 ∷ 0 ∷
    0 ∷ 0 ∷ 0 ∷ 0 ∷ 4 ∷ 10 ∷ 0 ∷ 0 ∷ 1 ∷ []

pub an_owner_behind_a_chain : message_of chain
    ≡ Ok (with_answers 2 (record { owner = []; kind = 65280; ttl = 0; rdata = 192 ∷ 12 ∷ 192 ∷ 36 ∷ 192 ∷ 38 ∷ [] } ∷
    record { owner = example; kind = 1; ttl = 0; rdata = 10 ∷ 0 ∷ 0 ∷ 1 ∷ [] } ∷ []))
unfolding read
an_owner_behind_a_chain = refl

-- ---- the first fault of each
pub eleven_octets_of_a_header : message_of (0 ∷ 1 ∷ 132 ∷ 0 ∷ 0 ∷ 1 ∷ 0 ∷ 1 ∷ 0 ∷ 0 ∷ 0 ∷ []) ≡ Err ShortHeader
unfolding read
eleven_octets_of_a_header = refl

pub no_answer_there : message_of asking ≡ Err Wire
unfolding read
no_answer_there = refl

pub an_owner_that_points_to_itself : message_of (asking ++ 192 ∷ 25 ∷ 0 ∷ 1 ∷ 0 ∷ 1 ∷ 0 ∷ 0 ∷ 0 ∷ 0 ∷ 0 ∷ 4 ∷ 10 ∷ 0 ∷
    0 ∷ 1 ∷ [])
    ≡ Err Wire
unfolding read
an_owner_that_points_to_itself = refl

pub an_octet_of_rdata_missing : message_of (asking ++ 0 ∷ 0 ∷ 1 ∷ 0 ∷ 1 ∷ 0 ∷ 0 ∷ 0 ∷ 0 ∷ 0 ∷ 4 ∷ 10 ∷ 0 ∷ 0 ∷ [])
    ≡ Err Wire
unfolding read
an_octet_of_rdata_missing = refl

pub no_rdata_there : message_of (asking ++ 0 ∷ 0 ∷ 1 ∷ 0 ∷ 1 ∷ 0 ∷ 0 ∷ 0 ∷ 0 ∷ 0 ∷ []) ≡ Err Wire
unfolding read
no_rdata_there = refl

pub an_address_of_three_octets : message_of (asking ++ 0 ∷ 0 ∷ 1 ∷ 0 ∷ 1 ∷ 0 ∷ 0 ∷ 0 ∷ 0 ∷ 0 ∷ 3 ∷ 10 ∷ 0 ∷ 0 ∷ [])
    ≡ Err BadRdata
unfolding read
an_address_of_three_octets = refl

pub a_name_behind_its_rdata : message_of (asking ++ 0 ∷ 0 ∷ 2 ∷ 0 ∷ 1 ∷ 0 ∷ 0 ∷ 0 ∷ 0 ∷ 0 ∷ 1 ∷ 192 ∷ 12 ∷ [])
    ≡ Err BadRdata
unfolding read
a_name_behind_its_rdata = refl

pub an_octet_behind_a_name : message_of (asking ++ 0 ∷ 0 ∷ 2 ∷ 0 ∷ 1 ∷ 0 ∷ 0 ∷ 0 ∷ 0 ∷ 0 ∷ 4 ∷ 1 ∷ codes "a" ++ 0 ∷ 0 ∷
    [])
    ≡ Err BadRdata
unfolding read
an_octet_behind_a_name = refl

pub a_label_of_other_bits : message_of (asking ++ 0 ∷ 0 ∷ 2 ∷ 0 ∷ 1 ∷ 0 ∷ 0 ∷ 0 ∷ 0 ∷ 0 ∷ 2 ∷ 64 ∷ 97 ∷ []) ≡ Err Wire
unfolding read
a_label_of_other_bits = refl

pub a_class_of_chaos : message_of (asking ++ 0 ∷ 0 ∷ 1 ∷ 0 ∷ 3 ∷ 0 ∷ 0 ∷ 0 ∷ 0 ∷ 0 ∷ 4 ∷ 10 ∷ 0 ∷ 0 ∷ 1 ∷ [])
    ≡ Err BadType
unfolding read
a_class_of_chaos = refl

pub an_opt_as_answer : message_of (asking ++ 0 ∷ 0 ∷ 41 ∷ 0 ∷ 1 ∷ 0 ∷ 0 ∷ 0 ∷ 0 ∷ 0 ∷ 4 ∷ 10 ∷ []) ≡ Err BadType
unfolding read
an_opt_as_answer = refl

pub an_octet_behind_the_answer : message_of (asking ++ 0 ∷ 0 ∷ 1 ∷ 0 ∷ 1 ∷ 0 ∷ 0 ∷ 0 ∷ 0 ∷ 0 ∷ 4 ∷ 10 ∷ 0 ∷ 0 ∷ 1 ∷ 0 ∷
    [])
    ≡ Err Trailing
unfolding read
an_octet_behind_the_answer = refl

pub numbers_of_the_faults : map fault_number (Wire ∷ ShortHeader ∷ BadRdata ∷ BadType ∷ Trailing ∷ [])
    ≡ 1 ∷ 2 ∷ 3 ∷ 4 ∷ 5 ∷ []
numbers_of_the_faults = refl

-- ---- authority and additional records are skipped by their shape: a record whose owner is a pointer to itself, and
-- an OPT record
abbrev two_others : Octets
two_others = 0 ∷ 1 ∷ 132 ∷ 0 ∷ 0 ∷ 0 ∷ 0 ∷ 0 ∷ 0 ∷ 1 ∷ 0 ∷ 1 ∷ []

abbrev opt_behind : Octets
opt_behind = 0 ∷ 0 ∷ 41 ∷ 4 ∷ 208 ∷ 0 ∷ 0 ∷ 0 ∷ 0 ∷ 0 ∷ 3 ∷ codes "abc"

abbrev looping : Octets
looping = 1 ∷ codes "a" ++ 192 ∷ 12 ∷ 0 ∷ 1 ∷ 0 ∷ 1 ∷ 0 ∷ 0 ∷ 0 ∷ 0 ∷ 0 ∷ 1 ∷ codes "x"

pub others_are_skipped : message_of (two_others ++ looping ++ opt_behind)
    ≡ Ok (record {
      header = record { id = 1; flags = 0x8400; counts = 0 ∷ 0 ∷ 1 ∷ 1 ∷ [] };
      questions = [];
      answers =
          [];
    })
unfolding read
others_are_skipped = refl

pub one_of_two_is_missing : message_of (two_others ++ opt_behind) ≡ Err Wire
unfolding read
one_of_two_is_missing = refl

-- ---- a message of one record of the root has 23 octets beside its RDATA, so that 65,512 make the longest
pub octets_beside_rdata : length (message_octets (record {
  header = record {
    id = 0;
    flags = 0;
    counts = 0 ∷ 1 ∷ 0 ∷ 0 ∷
        [];
  };
  questions = [];
  answers = record { owner = []; kind = 65280; ttl = 0; rdata = [] } ∷ [];
}))
    ≡ 23
unfolding message_octets header_octets wire_of two four
octets_beside_rdata = refl

pub the_longest_message : MESSAGE_OCTETS ≡ 23 + 65512
the_longest_message = refl

-- ---- a record is packed with the question for its zone
abbrev of_example : Record
of_example = record { owner = example; kind = 1; ttl = 60; rdata = 192 ∷ 0 ∷ 2 ∷ 1 ∷ [] }

pub packed_with_the_question : stream (written (packed 0x90 (record { name = example; kind = 252; class = 1 } ∷
    []) [] (of_example ∷ [])))
    ≡ 0 ∷ 48 ∷ 0 ∷ 144 ∷ 132 ∷ 0 ∷ 0 ∷ 1 ∷ 0 ∷ 1 ∷ 0 ∷ 0 ∷ 0 ∷ 0 ∷ 7 ∷ codes "example" ++ 0 ∷ 0 ∷ 252 ∷ 0 ∷ 1 ∷ 7 ∷
    codes "example" ++ 0 ∷ 0 ∷ 1 ∷ 0 ∷ 1 ∷ 0 ∷ 0 ∷ 0 ∷ 60 ∷ 0 ∷ 4 ∷ 192 ∷ 0 ∷ 2 ∷ 1 ∷ []
unfolding packed size_of message_octets question_octets header_octets wire_of two four
packed_with_the_question = refl

-- ---- the numbers of answers, so that none can change (RFC 1035 sections 4.1.1 and 4.1.4)
pub piece_octets_is_16384 : PIECE_OCTETS ≡ 16384
piece_octets_is_16384 = refl

pub answer_flags_is_0x8400 : ANSWER_FLAGS ≡ 0x8400
answer_flags_is_0x8400 = refl

pub count_at_is_6 : COUNT_AT ≡ 6
count_at_is_6 = refl

-- ---- the looks of a reading: example. twice, its label and its end, for a question and an owner
pub looks_of_the_transfer : fewest_looks content ≡ 4
unfolding fields_of
looks_of_the_transfer = refl

pub looks_is_258 : LOOKS ≡ 258
looks_is_258 = refl
