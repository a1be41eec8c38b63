-- Judge: NOTIFY requests, whose zone and whose replies the checker computes.
use Rattle.std.specs.Prelude.{refl, ◌≡◌, [], ◌∷◌, Some, None, codes, ◌++◌, Option}
use Rattle.dz_name.specs.Numbers.{two, number_of_two, number_of_four}
use Rattle.dz_header.specs.Header.{header_in, header_octets}
use Rattle.dz_header.specs.Shape.{behind_records, behind_owner, behind_head, shape_of}
use Rattle.dz_name.specs.Name.{wire_of}
use Rattle.dz_name.specs.Reading.{name_at, name_from, element_at}
use Rattle.dz_header.specs.Question.{question_at}
use Rattle.dz_request.specs.Request.{add_shape, opt_in, asked_in, asked_for, with_header, question_in, request}
use Rattle.dz_header.specs.Edns.{edns_of, opt_octets}
use Rattle.dz_header.specs.Flags.{flags_number}
use Rattle.dz_header.specs.RecordHead.{head_in}
use Rattle.dz_request.specs.Frame.{head_octets, bare_octets}
use Rattle.dz_notify.specs.Notify.{notify_zone_in}
use Rattle.dz_notify.specs.Reply.{notify_reply_for, notify_reply_of}
use Rattle.dz_notify.specs.declared.notify.Heard.TheVariants.{Taken, Stranger, NotOurs}
use Rattle.dz_name.specs.Words.{Octets, Name}

-- ID 80, a NOTIFY with AA, one question: the SOA of eXample.
abbrev notify : Octets
notify = 0 ∷ 80 ∷ 36 ∷ 0 ∷ 0 ∷ 1 ∷ 0 ∷ 0 ∷ 0 ∷ 0 ∷ 0 ∷ 0 ∷ 7 ∷ 101 ∷ 88 ∷ 97 ∷ 109 ∷ 112 ∷ 108 ∷ 101 ∷ 0 ∷ 0 ∷ 6
    ∷ 0 ∷ 1 ∷ []

pub names_its_zone : notify_zone_in notify ≡ Some (codes "example" ∷ [])
unfolding request with_header asked_for asked_in question_in question_at name_at name_from element_at wire_of opt_in
    behind_records header_in number_of_two
names_its_zone = refl

-- the same with a question for type A, which is about no zone
abbrev of_addresses : Octets
of_addresses = 0 ∷ 80 ∷ 36 ∷ 0 ∷ 0 ∷ 1 ∷ 0 ∷ 0 ∷ 0 ∷ 0 ∷ 0 ∷ 0 ∷ 7 ∷ 101 ∷ 88 ∷ 97 ∷ 109 ∷ 112 ∷ 108 ∷ 101 ∷ 0 ∷ 0 ∷ 1
    ∷ 0 ∷ 1 ∷ []

pub names_no_zone : notify_zone_in of_addresses ≡ None
unfolding request with_header asked_for asked_in question_in question_at name_at name_from element_at wire_of opt_in
    behind_records header_in number_of_two
names_no_zone = refl

-- ID 80, the SOA of example., from a primary: NOERROR
abbrev of_example : Octets
of_example = 0 ∷ 80 ∷ 36 ∷ 0 ∷ 0 ∷ 1 ∷ 0 ∷ 0 ∷ 0 ∷ 0 ∷ 0 ∷ 0 ∷ 7 ∷ 101 ∷ 120 ∷ 97 ∷ 109 ∷ 112 ∷ 108 ∷ 101 ∷ 0 ∷ 0 ∷ 6
    ∷ 0 ∷ 1 ∷ []

pub taken : notify_reply_of of_example Taken ≡ Some (0 ∷ 80 ∷ 160 ∷ 0 ∷ 0 ∷ 1 ∷ 0 ∷ 0 ∷ 0 ∷ 0 ∷ 0 ∷ 0 ∷ 7 ∷ 101 ∷ 120
    ∷ 97 ∷ 109 ∷ 112 ∷ 108 ∷ 101 ∷ 0 ∷ 0 ∷ 6 ∷ 0 ∷ 1 ∷ [])
unfolding notify_reply_of notify_reply_for request with_header asked_for asked_in question_in question_at name_at
    name_from element_at wire_of opt_in behind_records header_in number_of_two bare_octets head_octets header_octets
    flags_number opt_octets two
taken = refl

-- the same from another host
pub from_a_stranger : notify_reply_of of_example Stranger ≡ None
unfolding notify_reply_of notify_reply_for request with_header asked_for asked_in question_in question_at name_at
    name_from element_at wire_of opt_in behind_records header_in number_of_two bare_octets head_octets header_octets
    flags_number opt_octets two
from_a_stranger = refl

-- ID 81, the SOA of other., which isn't served: NOTAUTH
pub not_ours : notify_reply_of (0 ∷ 81 ∷ 36 ∷ 0 ∷ 0 ∷ 1 ∷ 0 ∷ 0 ∷ 0 ∷ 0 ∷ 0 ∷ 0
    ∷ 5 ∷ 111 ∷ 116 ∷ 104 ∷ 101 ∷ 114 ∷ 0 ∷ 0 ∷ 6 ∷ 0 ∷ 1 ∷ []) NotOurs ≡ Some
    (0 ∷ 81 ∷ 160 ∷ 9 ∷ 0 ∷ 1 ∷ 0 ∷ 0 ∷ 0 ∷ 0 ∷ 0 ∷ 0 ∷ 5 ∷ 111 ∷ 116 ∷ 104 ∷ 101 ∷ 114 ∷ 0 ∷ 0 ∷ 6 ∷ 0 ∷ 1 ∷ [])
unfolding notify_reply_of notify_reply_for request with_header asked_for asked_in question_in question_at name_at
    name_from element_at wire_of opt_in behind_records header_in number_of_two bare_octets head_octets header_octets
    flags_number opt_octets two
not_ours = refl

-- ID 82, the SOA of EXample., with RD, and an OPT record with DO
pub with_an_opt : notify_reply_of (0 ∷ 82 ∷ 37 ∷ 0 ∷ 0 ∷ 1 ∷ 0 ∷ 0 ∷ 0 ∷ 0 ∷ 0 ∷ 1 ∷ 7 ∷ 69 ∷ 88 ∷ 97 ∷ 109
    ∷ 112 ∷ 108 ∷ 101 ∷ 0 ∷ 0 ∷ 6 ∷ 0 ∷ 1 ∷ 0 ∷ 0 ∷ 41 ∷ 16 ∷ 0 ∷ 0 ∷ 0 ∷ 128 ∷ 0 ∷ 0 ∷ 0 ∷ []) Taken
    ≡ Some (0 ∷ 82 ∷ 161 ∷ 0 ∷ 0 ∷ 1 ∷ 0 ∷ 0 ∷ 0 ∷ 0 ∷ 0 ∷ 1 ∷ 7 ∷ 69 ∷ 88 ∷ 97 ∷ 109 ∷ 112 ∷ 108 ∷ 101 ∷ 0 ∷ 0 ∷ 6 ∷ 0
    ∷ 1 ∷ 0 ∷ 0 ∷ 41 ∷ 4 ∷ 208 ∷ 0 ∷ 0 ∷ 128 ∷ 0 ∷ 0 ∷ 0 ∷ [])
unfolding notify_reply_of notify_reply_for request with_header asked_for asked_in question_in question_at name_at
    name_from element_at wire_of opt_in behind_records header_in number_of_two bare_octets head_octets header_octets
    flags_number opt_octets two add_shape shape_of behind_owner behind_head head_in number_of_four
with_an_opt = refl

-- ---- the zones of requests
-- all that computes the zone of a NOTIFY: whoever unfolds `zone_in` unfolds its whole list
zone_in : Octets → Option Name
unfolding request with_header asked_for asked_in question_in question_at name_at name_from element_at wire_of opt_in
    add_shape behind_records shape_of behind_owner behind_head head_in header_in number_of_two number_of_four
zone_in octets = notify_zone_in octets

pub of_example_in_lower_case : notify_zone_in (0 ∷ 80 ∷ 36 ∷ 0 ∷ 0 ∷ 1 ∷ 0 ∷ 0 ∷ 0 ∷ 0 ∷ 0 ∷ 0 ∷ 7 ∷ codes "example" ++
    0 ∷ 0 ∷ 6 ∷ 0 ∷ 1 ∷ [])
    ≡ Some (codes "example" ∷ [])
unfolding zone_in
of_example_in_lower_case = refl

pub of_other_without_aa : notify_zone_in
    (0 ∷ 81 ∷ 32 ∷ 0 ∷ 0 ∷ 1 ∷ 0 ∷ 0 ∷ 0 ∷ 0 ∷ 0 ∷ 0 ∷ 5 ∷ codes "OTHER" ++ 0 ∷ 0 ∷
    6 ∷ 0 ∷ 1 ∷ [])
    ≡ Some (codes "other" ∷ [])
unfolding zone_in
of_other_without_aa = refl

-- with the new SOA as an answer, as primaries send it (RFC 1996 section 3.7)
abbrev with_the_new_soa : Octets
with_the_new_soa =
    0 ∷ 82 ∷ 36 ∷ 0 ∷ 0 ∷ 1 ∷ 0 ∷ 1 ∷ 0 ∷ 0 ∷ 0 ∷ 0 ∷ 1 ∷ codes "a" ++ 0 ∷ 0 ∷ 6 ∷ 0 ∷ 1 ∷ 192 ∷ 12 ∷ 0 ∷
    6 ∷ 0 ∷ 1 ∷ 0 ∷ 0 ∷ 0 ∷ 0 ∷ 0 ∷ 22 ∷ 0 ∷ 0 ∷ 0 ∷ 0 ∷ 0 ∷ 1 ∷ 0 ∷ 0 ∷ 0 ∷ 0 ∷ 0 ∷ 0 ∷ 0 ∷ 0 ∷ 0 ∷ 0 ∷ 0 ∷ 0 ∷ 0 ∷
    0 ∷ 0 ∷ 0 ∷ []

pub with_an_answer : notify_zone_in with_the_new_soa ≡ Some (codes "a" ∷ [])
unfolding zone_in
with_an_answer = refl

pub no_zone_of_nothing : notify_zone_in [] ≡ None
unfolding zone_in
no_zone_of_nothing = refl

pub no_zone_of_a_query : notify_zone_in
    (0 ∷ 80 ∷ 0 ∷ 0 ∷ 0 ∷ 1 ∷ 0 ∷ 0 ∷ 0 ∷ 0 ∷ 0 ∷ 0 ∷ 7 ∷ codes "example" ++ 0 ∷ 0 ∷
    6 ∷ 0 ∷ 1 ∷ [])
    ≡ None
unfolding zone_in
no_zone_of_a_query = refl

pub no_zone_of_a_response : notify_zone_in (0 ∷ 80 ∷ 164 ∷ 0 ∷ 0 ∷ 1 ∷ 0 ∷ 0 ∷ 0 ∷ 0 ∷ 0 ∷ 0 ∷ 7 ∷ codes "example" ++
    0 ∷ 0 ∷ 6 ∷ 0 ∷ 1 ∷ [])
    ≡ None
unfolding zone_in
no_zone_of_a_response = refl

pub no_zone_of_another_type_than_soa : notify_zone_in (0 ∷ 80 ∷ 36 ∷ 0 ∷ 0 ∷ 1 ∷ 0 ∷ 0 ∷ 0 ∷ 0 ∷ 0 ∷ 0 ∷ 7 ∷
    codes "example" ++ 0 ∷ 0 ∷ 1 ∷ 0 ∷ 1 ∷ [])
    ≡ None
unfolding zone_in
no_zone_of_another_type_than_soa = refl

pub no_zone_of_another_class : notify_zone_in (0 ∷ 80 ∷ 36 ∷ 0 ∷ 0 ∷ 1 ∷ 0 ∷ 0 ∷ 0 ∷ 0 ∷ 0 ∷ 0 ∷ 7 ∷ codes "example" ++
    0 ∷ 0 ∷ 6 ∷ 0 ∷ 3 ∷ [])
    ≡ None
unfolding zone_in
no_zone_of_another_class = refl

pub no_zone_of_a_newer_edns : notify_zone_in (0 ∷ 80 ∷ 36 ∷ 0 ∷ 0 ∷ 1 ∷ 0 ∷ 0 ∷ 0 ∷ 0 ∷ 0 ∷ 1 ∷ 7 ∷ codes "example" ++
    0 ∷ 0 ∷ 6 ∷ 0 ∷ 1 ∷ 0 ∷ 0 ∷ 41 ∷ 16 ∷ 0 ∷ 0 ∷ 1 ∷ 0 ∷ 0 ∷ 0 ∷ 0 ∷ [])
    ≡ None
unfolding zone_in
no_zone_of_a_newer_edns = refl

pub no_zone_of_no_question : notify_zone_in (0 ∷ 80 ∷ 36 ∷ 0 ∷ 0 ∷ 0 ∷ 0 ∷ 0 ∷ 0 ∷ 0 ∷ 0 ∷ 0 ∷ []) ≡ None
unfolding zone_in
no_zone_of_no_question = refl

pub no_zone_of_another_opcode : notify_zone_in
    (0 ∷ 80 ∷ 40 ∷ 0 ∷ 0 ∷ 1 ∷ 0 ∷ 0 ∷ 0 ∷ 0 ∷ 0 ∷ 0 ∷ 7 ∷ codes "example" ++
    0 ∷ 0 ∷ 6 ∷ 0 ∷ 1 ∷ [])
    ≡ None
unfolding zone_in
no_zone_of_another_opcode = refl

-- NOTAUTH, without the SOA of the request
pub the_answer_is_not_copied : notify_reply_of (0 ∷ 83 ∷ 36 ∷ 0 ∷ 0 ∷ 1 ∷ 0 ∷ 1 ∷ 0 ∷ 0 ∷ 0 ∷ 0 ∷ 1 ∷ codes "a" ++ 0 ∷
    0 ∷ 6 ∷ 0 ∷ 1 ∷ 192 ∷ 12 ∷ 0 ∷ 6 ∷ 0 ∷ 1 ∷ 0 ∷ 0 ∷ 0 ∷ 0 ∷ 0 ∷ 0 ∷ []) NotOurs
    ≡ Some (0 ∷ 83 ∷ 160 ∷ 9 ∷ 0 ∷ 1 ∷ 0 ∷ 0 ∷ 0 ∷ 0 ∷ 0 ∷ 0 ∷ 1 ∷ codes "a" ++ 0 ∷ 0 ∷ 6 ∷ 0 ∷ 1 ∷ [])
unfolding notify_reply_of notify_reply_for zone_in bare_octets head_octets header_octets flags_number opt_octets two
the_answer_is_not_copied = refl
