-- Judge: what requests ask for, and replies, computed by the checker.
use Rattle.std.specs.Prelude.{◌≡◌, [], ◌∷◌, None, false, codes, refl, ℕ, ◌++◌, map, replicate, Some, true}
use Rattle.dz_name.specs.Numbers.{two, number_of_two, number_of_four}
use Rattle.dz_header.specs.Edns.{opt_octets, edns_of}
use Rattle.dz_header.specs.Flags.{flags_number}
use Rattle.dz_header.specs.Header.{header_in, header_octets}
use Rattle.dz_header.specs.Shape.{behind_records, shape_of, behind_owner, behind_head}
use Rattle.dz_header.specs.declared.code.ResponseCode.TheVariants as responses
use Rattle.dz_name.specs.Name.{wire_of}
use Rattle.dz_name.specs.Reading.{name_at, name_from, element_at}
use Rattle.dz_header.specs.Question.{question_at}
use Rattle.dz_request.specs.Frame.{query_of, head_octets, bare_octets, within_limit}
use Rattle.dz_request.specs.Request.{opt_in, asked_in, asked_for, with_header, question_in, request, add_shape}
use Rattle.dz_request.specs.declared.request.Asked.{Asked}
use Rattle.dz_request.specs.declared.request.Request.TheVariants.{Curt, Asks, Silent, NewerEdns, NotImp, Notify}
use Rattle.dz_name.specs.Words.{Octets}
use Rattle.dz_header.specs.RecordHead.{head_in}
use Rattle.dz_request.specs.declared.request.Request.{Request}
use Rattle.dz_header.specs.declared.code.ResponseCode.{ResponseCode}

-- ID 19, a query with RD, one question: the A record of oRg.
abbrev query : Octets
query = 0 ∷ 19 ∷ 1 ∷ 0 ∷ 0 ∷ 1 ∷ 0 ∷ 0 ∷ 0 ∷ 0 ∷ 0 ∷ 0 ∷ 3 ∷ 111 ∷ 82 ∷ 103 ∷ 0 ∷ 0 ∷ 1 ∷ 0 ∷ 1 ∷ []

-- what this query asks for
abbrev asked : Asked
asked = record {
  header = record { id = 19; flags = 256; counts = 1 ∷ 0 ∷ 0 ∷ 0 ∷ [] };
  question = record { name = codes "org" ∷ []; kind = 1; class = 1 };
  size = 9;
  edns = None;
}

-- the query is read, with the name in lower case
pub a_query : request query ≡ Asks asked
unfolding request with_header asked_for asked_in question_in question_at name_at name_from element_at wire_of opt_in
    behind_records header_in number_of_two
a_query = refl

-- REFUSED, with the question spelled as in the request
pub refused : within_limit false (query_of query asked) 5 false (bare_octets (query_of query asked) 5)
    ≡ 0 ∷ 19 ∷ 129 ∷ 5 ∷ 0 ∷ 1 ∷ 0 ∷ 0 ∷ 0 ∷ 0 ∷ 0 ∷ 0 ∷ 3 ∷ 111 ∷ 82 ∷ 103 ∷ 0 ∷ 0 ∷ 1 ∷ 0 ∷ 1 ∷ []
unfolding within_limit bare_octets head_octets header_octets flags_number opt_octets two
refused = refl

-- a pointer in the question: FORMERR
pub a_pointer : request (0 ∷ 19 ∷ 1 ∷ 0 ∷ 0 ∷ 1 ∷ 0 ∷ 0 ∷ 0 ∷ 0 ∷ 0 ∷ 0 ∷ 192 ∷ 0 ∷ 0 ∷ 1 ∷ 0 ∷ 1 ∷ [])
    ≡ Curt (record { id = 19; flags = 256; counts = 1 ∷ 0 ∷ 0 ∷ 0 ∷ [] }) responses.FormErr
unfolding request with_header asked_for asked_in question_in question_at name_at name_from element_at wire_of opt_in
    behind_records header_in number_of_two
a_pointer = refl

-- ---- what requests ask for, in a word
pub data Word : Type 0 where
  silent : Word
  notimp_curtly : Word
  formerr_curtly : Word
  curt : Word
  newer : Word
  notimp : Word
  notify : Word
  asks : Word

abbrev curtly : ResponseCode → Word
curtly responses.NotImp = notimp_curtly
curtly responses.FormErr = formerr_curtly
curtly responses.NoError = curt
curtly responses.ServFail = curt
curtly responses.NxDomain = curt
curtly responses.Refused = curt
curtly responses.YxDomain = curt
curtly responses.NotAuth = curt
curtly responses.BadVers = curt

abbrev word_of : Request → Word
word_of Silent = silent
word_of (Curt _ code) = curtly code
word_of (NewerEdns _) = newer
word_of (NotImp _) = notimp
word_of (Notify _) = notify
word_of (Asks _) = asks

abbrev kind_of : Octets → Word
kind_of octets = word_of (request octets)

-- all that computes it: whoever unfolds `read` unfolds its whole list
read : Octets → Request
unfolding request with_header asked_for asked_in question_in question_at name_at name_from element_at wire_of opt_in
    add_shape behind_records shape_of behind_owner behind_head head_in header_in number_of_two number_of_four
read octets = request octets

-- ---- what can't be read is a format error
pub two_questions : kind_of (0 ∷ 116 ∷ 0 ∷ 0 ∷ 0 ∷ 2 ∷ 0 ∷ 0 ∷ 0 ∷ 0 ∷ 0 ∷ 0 ∷ 7 ∷ codes "example" ++ 0 ∷ 0 ∷ 6 ∷ 0 ∷
    1 ∷ 7 ∷ codes "example" ++ 0 ∷ 0 ∷ 6 ∷ 0 ∷ 1 ∷ [])
    ≡ formerr_curtly
unfolding read
two_questions = refl

pub a_class_of_one_octet : kind_of
    (0 ∷ 116 ∷ 0 ∷ 0 ∷ 0 ∷ 1 ∷ 0 ∷ 0 ∷ 0 ∷ 0 ∷ 0 ∷ 0 ∷ 7 ∷ codes "example" ++ 0 ∷ 0 ∷ 6 ∷
    0 ∷ [])
    ≡ formerr_curtly
unfolding read
a_class_of_one_octet = refl

pub a_pointer_in_the_question : kind_of
    (0 ∷ 116 ∷ 0 ∷ 0 ∷ 0 ∷ 1 ∷ 0 ∷ 0 ∷ 0 ∷ 0 ∷ 0 ∷ 0 ∷ 3 ∷ codes "www" ++ 192 ∷ 12 ∷
    0 ∷ 6 ∷ 0 ∷ 1 ∷ [])
    ≡ formerr_curtly
unfolding read
a_pointer_in_the_question = refl

pub a_label_that_is_cut : kind_of (0 ∷ 116 ∷ 0 ∷ 0 ∷ 0 ∷ 1 ∷ 0 ∷ 0 ∷ 0 ∷ 0 ∷ 0 ∷ 0 ∷ 3 ∷ 119 ∷ []) ≡ formerr_curtly
unfolding read
a_label_that_is_cut = refl

pub no_question : kind_of (0 ∷ 116 ∷ 0 ∷ 0 ∷ 0 ∷ 1 ∷ 0 ∷ 0 ∷ 0 ∷ 0 ∷ 0 ∷ 0 ∷ []) ≡ formerr_curtly
unfolding read
no_question = refl

pub a_label_of_64_octets : kind_of (0 ∷ 116 ∷ 0 ∷ 0 ∷ 0 ∷ 1 ∷ 0 ∷ 0 ∷ 0 ∷ 0 ∷ 0 ∷ 0 ∷
    codes "@aaaaaaaaaaaaaaaaaaaaaaaaaaaaaaaaaaaaaaaaaaaaaaaaaaaaaaaaaaaaaaaa" ++ 0 ∷ 0 ∷ 6 ∷ 0 ∷ 1 ∷ [])
    ≡ formerr_curtly
unfolding read
a_label_of_64_octets = refl

pub no_answer : kind_of (0 ∷ 116 ∷ 0 ∷ 0 ∷ 0 ∷ 1 ∷ 0 ∷ 1 ∷ 0 ∷ 0 ∷ 0 ∷ 0 ∷ 7 ∷ codes "example" ++ 0 ∷ 0 ∷ 6 ∷ 0 ∷ 1 ∷
    [])
    ≡ formerr_curtly
unfolding read
no_answer = refl

pub no_authority : kind_of
    (0 ∷ 116 ∷ 0 ∷ 0 ∷ 0 ∷ 1 ∷ 0 ∷ 0 ∷ 0 ∷ 1 ∷ 0 ∷ 0 ∷ 7 ∷ codes "example" ++ 0 ∷ 0 ∷ 6 ∷ 0 ∷ 1 ∷
    [])
    ≡ formerr_curtly
unfolding read
no_authority = refl

pub no_additional : kind_of (0 ∷ 116 ∷ 0 ∷ 0 ∷ 0 ∷ 1 ∷ 0 ∷ 0 ∷ 0 ∷ 0 ∷ 0 ∷ 1 ∷ 7 ∷ codes "example" ++ 0 ∷ 0 ∷ 6 ∷ 0 ∷
    1 ∷ [])
    ≡ formerr_curtly
unfolding read
no_additional = refl

pub an_opt_that_is_cut : kind_of (0 ∷ 116 ∷ 0 ∷ 0 ∷ 0 ∷ 1 ∷ 0 ∷ 0 ∷ 0 ∷ 0 ∷ 0 ∷ 1 ∷ 7 ∷ codes "example" ++ 0 ∷ 0 ∷ 6 ∷
    0 ∷ 1 ∷ 0 ∷ 0 ∷ 41 ∷ 4 ∷ 208 ∷ 0 ∷ 0 ∷ 0 ∷ 0 ∷ 0 ∷ [])
    ≡ formerr_curtly
unfolding read
an_opt_that_is_cut = refl

pub two_opt : kind_of (0 ∷ 116 ∷ 0 ∷ 0 ∷ 0 ∷ 1 ∷ 0 ∷ 0 ∷ 0 ∷ 0 ∷ 0 ∷ 2 ∷ 7 ∷ codes "example" ++ 0 ∷ 0 ∷ 6 ∷ 0 ∷ 1 ∷ 0 ∷
    0 ∷ 41 ∷ 4 ∷ 208 ∷ 0 ∷ 0 ∷ 0 ∷ 0 ∷ 0 ∷ 0 ∷ 0 ∷ 0 ∷ 41 ∷ 4 ∷ 208 ∷ 0 ∷ 0 ∷ 0 ∷ 0 ∷ 0 ∷ 0 ∷ [])
    ≡ formerr_curtly
unfolding read
two_opt = refl

pub two_opt_of_version_1 : kind_of
    (0 ∷ 116 ∷ 0 ∷ 0 ∷ 0 ∷ 1 ∷ 0 ∷ 0 ∷ 0 ∷ 0 ∷ 0 ∷ 2 ∷ 7 ∷ codes "example" ++ 0 ∷ 0 ∷ 6 ∷
    0 ∷ 1 ∷ 0 ∷ 0 ∷ 41 ∷ 16 ∷ 0 ∷ 0 ∷ 1 ∷ 0 ∷ 0 ∷ 0 ∷ 0 ∷ 0 ∷ 0 ∷ 41 ∷ 16 ∷ 0 ∷ 0 ∷ 1 ∷ 0 ∷ 0 ∷ 0 ∷ 0 ∷ [])
    ≡ formerr_curtly
unfolding read
two_opt_of_version_1 = refl

pub an_opt_below_the_root : kind_of (0 ∷ 116 ∷ 0 ∷ 0 ∷ 0 ∷ 1 ∷ 0 ∷ 0 ∷ 0 ∷ 0 ∷ 0 ∷ 1 ∷ 7 ∷ codes "example" ++ 0 ∷ 0 ∷
    6 ∷ 0 ∷ 1 ∷ 1 ∷ codes "a" ++ 0 ∷ 0 ∷ 41 ∷ 4 ∷ 208 ∷ 0 ∷ 0 ∷ 0 ∷ 0 ∷ 0 ∷ 0 ∷ [])
    ≡ formerr_curtly
unfolding read
an_opt_below_the_root = refl

-- ---- responses come first, then other opcodes, what can't be read, the version of EDNS, and class and type
-- a query with RD for a type in two octets, of class IN
abbrev query_of_kind : ℕ → ℕ → Octets
query_of_kind upper lower =
    0 ∷ 117 ∷ 1 ∷ 0 ∷ 0 ∷ 1 ∷ 0 ∷ 0 ∷ 0 ∷ 0 ∷ 0 ∷ 0 ∷ 7 ∷ codes "example" ++ 0 ∷ upper ∷ lower ∷
    0 ∷ 1 ∷ []

-- A, SOA, SINK, APL, the number before TKEY, and ANY
pub types_that_are_asked_for : map (λ lower. kind_of (query_of_kind 0 lower)) (1 ∷ 6 ∷ 40 ∷ 42 ∷ 248 ∷ 255 ∷ [])
    ≡ replicate 6 asks
unfolding read
types_that_are_asked_for = refl

pub caa_is_asked_for : kind_of (query_of_kind 1 1) ≡ asks
unfolding read
caa_is_asked_for = refl

pub a_private_type_is_asked_for : kind_of (query_of_kind 255 0) ≡ asks
unfolding read
a_private_type_is_asked_for = refl

-- OPT, TKEY, TSIG, IXFR, AXFR, MAILB and MAILA (RFC 6895 section 3.1)
pub types_that_are_not : map (λ lower. kind_of (query_of_kind 0 lower)) (41 ∷ 249 ∷ 250 ∷ 251 ∷ 252 ∷ 253 ∷ 254 ∷ [])
    ≡ replicate 7 notimp
unfolding read
types_that_are_not = refl

pub class_0 : kind_of (0 ∷ 117 ∷ 0 ∷ 0 ∷ 0 ∷ 1 ∷ 0 ∷ 0 ∷ 0 ∷ 0 ∷ 0 ∷ 0 ∷ 7 ∷ codes "example" ++ 0 ∷ 0 ∷ 6 ∷ 0 ∷ 0 ∷ [])
    ≡ notimp
unfolding read
class_0 = refl

pub class_of_chaos : kind_of (0 ∷ 117 ∷ 0 ∷ 0 ∷ 0 ∷ 1 ∷ 0 ∷ 0 ∷ 0 ∷ 0 ∷ 0 ∷ 0 ∷ 7 ∷ codes "example" ++ 0 ∷ 0 ∷ 6 ∷ 0 ∷
    3 ∷ [])
    ≡ notimp
unfolding read
class_of_chaos = refl

pub class_none : kind_of
    (0 ∷ 117 ∷ 0 ∷ 0 ∷ 0 ∷ 1 ∷ 0 ∷ 0 ∷ 0 ∷ 0 ∷ 0 ∷ 0 ∷ 7 ∷ codes "example" ++ 0 ∷ 0 ∷ 6 ∷ 0 ∷ 254 ∷
    [])
    ≡ notimp
unfolding read
class_none = refl

pub class_any : kind_of (0 ∷ 117 ∷ 0 ∷ 0 ∷ 0 ∷ 1 ∷ 0 ∷ 0 ∷ 0 ∷ 0 ∷ 0 ∷ 0 ∷ 7 ∷ codes "example" ++ 0 ∷ 0 ∷ 6 ∷ 0 ∷ 255 ∷
    [])
    ≡ notimp
unfolding read
class_any = refl

pub notify_without_aa : kind_of (0 ∷ 117 ∷ 32 ∷ 0 ∷ 0 ∷ 1 ∷ 0 ∷ 0 ∷ 0 ∷ 0 ∷ 0 ∷ 0 ∷ 7 ∷ codes "example" ++ 0 ∷ 0 ∷ 6 ∷
    0 ∷ 1 ∷ [])
    ≡ notify
unfolding read
notify_without_aa = refl

pub notify_with_aa : kind_of (0 ∷ 117 ∷ 36 ∷ 0 ∷ 0 ∷ 1 ∷ 0 ∷ 0 ∷ 0 ∷ 0 ∷ 0 ∷ 0 ∷ 7 ∷ codes "example" ++ 0 ∷ 0 ∷ 6 ∷ 0 ∷
    1 ∷ [])
    ≡ notify
unfolding read
notify_with_aa = refl

pub notify_of_ns : kind_of (0 ∷ 117 ∷ 36 ∷ 0 ∷ 0 ∷ 1 ∷ 0 ∷ 0 ∷ 0 ∷ 0 ∷ 0 ∷ 0 ∷ 7 ∷ codes "example" ++ 0 ∷ 0 ∷ 2 ∷ 0 ∷
    1 ∷ [])
    ≡ notimp
unfolding read
notify_of_ns = refl

pub notify_of_chaos : kind_of
    (0 ∷ 117 ∷ 36 ∷ 0 ∷ 0 ∷ 1 ∷ 0 ∷ 0 ∷ 0 ∷ 0 ∷ 0 ∷ 0 ∷ 7 ∷ codes "example" ++ 0 ∷ 0 ∷ 6 ∷ 0 ∷
    3 ∷ [])
    ≡ notimp
unfolding read
notify_of_chaos = refl

pub inverse_query : kind_of (0 ∷ 117 ∷ 8 ∷ 0 ∷ 0 ∷ 1 ∷ 0 ∷ 0 ∷ 0 ∷ 0 ∷ 0 ∷ 0 ∷ 7 ∷ codes "example" ++ 0 ∷ 0 ∷ 6 ∷ 0 ∷
    1 ∷ [])
    ≡ notimp_curtly
unfolding read
inverse_query = refl

pub status : kind_of (0 ∷ 117 ∷ 16 ∷ 0 ∷ 0 ∷ 1 ∷ 0 ∷ 0 ∷ 0 ∷ 0 ∷ 0 ∷ 0 ∷ 7 ∷ codes "example" ++ 0 ∷ 0 ∷ 6 ∷ 0 ∷ 1 ∷ [])
    ≡ notimp_curtly
unfolding read
status = refl

pub opcode_3 : kind_of (0 ∷ 117 ∷ 24 ∷ 0 ∷ 0 ∷ 1 ∷ 0 ∷ 0 ∷ 0 ∷ 0 ∷ 0 ∷ 0 ∷ 7 ∷ codes "example" ++ 0 ∷ 0 ∷ 6 ∷ 0 ∷ 1 ∷
    [])
    ≡ notimp_curtly
unfolding read
opcode_3 = refl

pub update : kind_of (0 ∷ 117 ∷ 40 ∷ 0 ∷ 0 ∷ 1 ∷ 0 ∷ 0 ∷ 0 ∷ 0 ∷ 0 ∷ 0 ∷ 7 ∷ codes "example" ++ 0 ∷ 0 ∷ 6 ∷ 0 ∷ 1 ∷ [])
    ≡ notimp_curtly
unfolding read
update = refl

pub opcode_15 : kind_of (0 ∷ 117 ∷ 120 ∷ 0 ∷ 0 ∷ 1 ∷ 0 ∷ 0 ∷ 0 ∷ 0 ∷ 0 ∷ 0 ∷ 7 ∷ codes "example" ++ 0 ∷ 0 ∷ 6 ∷ 0 ∷ 1 ∷
    [])
    ≡ notimp_curtly
unfolding read
opcode_15 = refl

pub update_that_cannot_be_read : kind_of (0 ∷ 117 ∷ 40 ∷ 0 ∷ 0 ∷ 0 ∷ 255 ∷ 255 ∷ 0 ∷ 0 ∷ 0 ∷ 0 ∷ []) ≡ notimp_curtly
unfolding read
update_that_cannot_be_read = refl

pub response_of_an_update : kind_of (0 ∷ 117 ∷ 168 ∷ 0 ∷ 0 ∷ 0 ∷ 0 ∷ 0 ∷ 0 ∷ 0 ∷ 0 ∷ 0 ∷ []) ≡ silent
unfolding read
response_of_an_update = refl

pub newer_edns_before_the_class : kind_of (0 ∷ 117 ∷ 0 ∷ 0 ∷ 0 ∷ 1 ∷ 0 ∷ 0 ∷ 0 ∷ 0 ∷ 0 ∷ 1 ∷ 7 ∷ codes "example" ++ 0 ∷
    0 ∷ 6 ∷ 0 ∷ 3 ∷ 0 ∷ 0 ∷ 41 ∷ 4 ∷ 208 ∷ 0 ∷ 1 ∷ 0 ∷ 0 ∷ 0 ∷ 0 ∷ [])
    ≡ newer
unfolding read
newer_edns_before_the_class = refl

pub newer_edns_of_a_notify : kind_of (0 ∷ 117 ∷ 36 ∷ 0 ∷ 0 ∷ 1 ∷ 0 ∷ 0 ∷ 0 ∷ 0 ∷ 0 ∷ 1 ∷ 7 ∷ codes "example" ++ 0 ∷ 0 ∷
    6 ∷ 0 ∷ 1 ∷ 0 ∷ 0 ∷ 41 ∷ 4 ∷ 208 ∷ 0 ∷ 1 ∷ 0 ∷ 0 ∷ 0 ∷ 0 ∷ [])
    ≡ newer
unfolding read
newer_edns_of_a_notify = refl

pub newer_edns_before_the_type : kind_of (0 ∷ 117 ∷ 0 ∷ 0 ∷ 0 ∷ 1 ∷ 0 ∷ 0 ∷ 0 ∷ 0 ∷ 0 ∷ 1 ∷ 7 ∷ codes "example" ++ 0 ∷
    0 ∷ 252 ∷ 0 ∷ 1 ∷ 0 ∷ 0 ∷ 41 ∷ 4 ∷ 208 ∷ 0 ∷ 1 ∷ 0 ∷ 0 ∷ 0 ∷ 0 ∷ [])
    ≡ newer
unfolding read
newer_edns_before_the_type = refl

pub edns_of_the_version_0 : kind_of (0 ∷ 117 ∷ 0 ∷ 0 ∷ 0 ∷ 1 ∷ 0 ∷ 0 ∷ 0 ∷ 0 ∷ 0 ∷ 1 ∷ 7 ∷ codes "example" ++ 0 ∷ 0 ∷
    6 ∷ 0 ∷ 1 ∷ 0 ∷ 0 ∷ 41 ∷ 2 ∷ 0 ∷ 255 ∷ 0 ∷ 0 ∷ 0 ∷ 0 ∷ 0 ∷ [])
    ≡ asks
unfolding read
edns_of_the_version_0 = refl

-- ---- what a query asks: its question, how many octets that has, and its OPT
pub asks_in_lower_case : request (0 ∷ 118 ∷ 1 ∷ 0 ∷ 0 ∷ 1 ∷ 0 ∷ 0 ∷ 0 ∷ 0 ∷ 0 ∷ 0 ∷ 3 ∷ codes "wiW" ++ 7 ∷
    codes "eXample" ++ 0 ∷ 0 ∷ 28 ∷ 0 ∷ 1 ∷ [])
    ≡ Asks (record {
      header = record { id = 0x76; flags = 256; counts = 1 ∷ 0 ∷ 0 ∷ 0 ∷ [] };
      question = record {
        name =
            codes "wiw" ∷ codes "example" ∷ [];
        kind = 28;
        class = 1;
      };
      size = 17;
      edns = None;
    })
unfolding read
asks_in_lower_case = refl

pub asks_of_the_root : request (0 ∷ 118 ∷ 1 ∷ 0 ∷ 0 ∷ 1 ∷ 0 ∷ 0 ∷ 0 ∷ 0 ∷ 0 ∷ 0 ∷ 0 ∷ 0 ∷ 2 ∷ 0 ∷ 1 ∷ [])
    ≡ Asks (record {
      header = record { id = 0x76; flags = 256; counts = 1 ∷ 0 ∷ 0 ∷ 0 ∷ [] };
      question = record {
        name =
            [];
        kind = 2;
        class = 1;
      };
      size = 5;
      edns = None;
    })
unfolding read
asks_of_the_root = refl

-- an answer record, and an OPT record of size 4096 with DO between two other additional records
pub asks_with_an_opt_among_others : request (0 ∷ 118 ∷ 1 ∷ 0 ∷ 0 ∷ 1 ∷ 0 ∷ 1 ∷ 0 ∷ 0 ∷ 0 ∷ 3 ∷ 0 ∷ 0 ∷ 2 ∷ 0 ∷ 1 ∷ 0 ∷
    0 ∷ 1 ∷ 0 ∷ 1 ∷ 0 ∷ 0 ∷ 0 ∷ 0 ∷ 0 ∷ 4 ∷ 192 ∷ 0 ∷ 2 ∷ 1 ∷ 192 ∷ 12 ∷ 0 ∷ 1 ∷ 0 ∷ 1 ∷ 0 ∷ 0 ∷ 0 ∷ 0 ∷ 0 ∷ 4 ∷ 127 ∷
    0 ∷ 0 ∷ 1 ∷ 0 ∷ 0 ∷ 41 ∷ 16 ∷ 0 ∷ 0 ∷ 0 ∷ 128 ∷ 0 ∷ 0 ∷ 4 ∷ 0 ∷ 3 ∷ 0 ∷ 0 ∷ 1 ∷ codes "a" ++ 0 ∷ 0 ∷ 16 ∷ 0 ∷ 1 ∷
    0 ∷ 0 ∷ 0 ∷ 0 ∷ 0 ∷ 2 ∷ 1 ∷ codes "x")
    ≡ Asks (record {
      header = record { id = 0x76; flags = 256; counts = 1 ∷ 1 ∷ 0 ∷ 3 ∷ [] };
      question = record {
        name =
            [];
        kind = 2;
        class = 1;
      };
      size = 5;
      edns = Some (record { size = 4096; version = 0; dnssec_ok = true });
    })
unfolding read
asks_with_an_opt_among_others = refl

-- ---- names of 255 octets are read, and longer ones not: three labels of 63 octets and one of so many
abbrev letters : ℕ → Octets
letters n = n ∷ replicate n 97

abbrev long : ℕ → Octets
long last = (0 ∷ 119 ∷ 0 ∷ 0 ∷ 0 ∷ 1 ∷ 0 ∷ 0 ∷ 0 ∷ 0 ∷ 0 ∷ 0 ∷ letters 63) ++ letters 63 ++ letters 63 ++
    letters last ++ 0 ∷ 0 ∷ 1 ∷ 0 ∷ 1 ∷ []

pub a_name_of_255_octets : kind_of (long 61) ≡ asks
unfolding read
a_name_of_255_octets = refl

pub a_name_of_256_octets : kind_of (long 62) ≡ formerr_curtly
unfolding read
a_name_of_256_octets = refl
