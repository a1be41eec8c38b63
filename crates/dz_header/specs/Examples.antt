-- Judge: headers, flags, questions, shapes and OPT records, and the numbers in them, computed by the checker.
use Rattle.std.specs.Prelude.{◌≡◌, refl, [], ◌∷◌, Some, true, false, ℕ, zero, suc, Bool, List, map, take, replicate}
use Rattle.std.specs.Prelude.{Option, None, Ok, Err, ◌++◌, codes}
use Rattle.dz_name.specs.Numbers.{two, number_of_two, number_of_four}
use Rattle.dz_name.specs.Words.{Octets, Kind}
use Rattle.dz_header.specs.Edns.{edns_of, opt_octets}
use Rattle.dz_header.specs.Flags.{flags_number, is_truncated, code_of, is_response, opcode_of, is_authoritative}
use Rattle.dz_header.specs.Flags.{is_recursion_desired}
use Rattle.dz_header.specs.Header.{header_in, header_octets, header_of}
use Rattle.dz_header.specs.RecordHead.{head_in}
use Rattle.dz_header.specs.Shape.{behind_owner, behind_head, shape_of}
use Rattle.dz_name.specs.Reading.{name_at, name_from, element_at}
use Rattle.dz_name.specs.declared.wire_fault.WireFault.TheVariants.{Short}
use Rattle.dz_header.specs.Question.{question_at}
use Rattle.dz_header.specs.declared.header.Header.{Header}
use Rattle.dz_header.specs.declared.shape.Shape.{Shape}
use Rattle.dz_header.specs.declared.flags.TheConstants.{RESPONSE, OPCODE, CODES, AUTHORITATIVE, TRUNCATED}
use Rattle.dz_header.specs.declared.flags.TheConstants.{RECURSION_DESIRED}
use Rattle.dz_header.specs.declared.question.TheConstants.{QUESTION_OCTETS}
use Rattle.dz_header.specs.declared.record_head.TheConstants.{HEAD_OCTETS}
use Rattle.dz_header.specs.declared.edns.TheConstants.{VERSION, VERSIONS, DNSSEC_OK}
use Rattle.dz_header.specs.declared.shape.TheConstants.{POINTER}
use Rattle.dz_header.specs.declared.writer.TheConstants.{BUFFER_OCTETS}

-- QR, AA and RD of a reply to a query
pub answer_to_a_query : flags_number (record {
  response = true;
  opcode = 0;
  authoritative = true;
  truncated = false;
  recursion_desired = true;
  code = 0;
}) ≡ 0x8500
unfolding flags_number
answer_to_a_query = refl

-- QR, TC and NXDOMAIN
pub truncated : is_truncated 0x8203 ≡ true
truncated = refl

pub no_name : code_of 0x8203 ≡ 3
no_name = refl

pub twelve_octets : header_octets (record { id = 16; flags = 0x8500; counts = 1 ∷ 2 ∷ 0 ∷ 256 ∷ [] })
    ≡ 0 ∷ 16 ∷ 133 ∷ 0 ∷ 0 ∷ 1 ∷ 0 ∷ 2 ∷ 0 ∷ 0 ∷ 1 ∷ 0 ∷ []
unfolding header_octets two
twelve_octets = refl

pub read_again : header_in (0 ∷ 16 ∷ 133 ∷ 0 ∷ 0 ∷ 1 ∷ 0 ∷ 2 ∷ 0 ∷ 0 ∷ 1 ∷ 0 ∷ [])
    ≡ record { id = 16; flags = 0x8500; counts = 1 ∷ 2 ∷ 0 ∷ 256 ∷ [] }
unfolding header_in number_of_two
read_again = refl

-- an OPT record of size 4096 and version 0 with DO, followed by an octet
abbrev opt : Octets
opt = 0 ∷ 0 ∷ 41 ∷ 16 ∷ 0 ∷ 0 ∷ 0 ∷ 128 ∷ 0 ∷ 0 ∷ 0 ∷ 7 ∷ []

pub shape_of_opt : shape_of opt
    ≡ Some (record { root = true; head = record { kind = 41; class = 4096; ttl = 32768; size = 0 } }, [], 7 ∷ [])
unfolding shape_of behind_owner behind_head head_in number_of_two number_of_four
shape_of_opt = refl

pub edns_of_opt : edns_of (record { kind = 41; class = 4096; ttl = 32768; size = 0 })
    ≡ record { size = 4096; version = 0; dnssec_ok = true }
edns_of_opt = refl

-- BADVERS is 16: its upper eight bits are in the OPT record
pub opt_of_badvers : opt_octets 16 (Some (record { size = 4096; version = 1; dnssec_ok = true }))
    ≡ 0 ∷ 0 ∷ 41 ∷ 4 ∷ 208 ∷ 1 ∷ 0 ∷ 128 ∷ 0 ∷ 0 ∷ 0 ∷ []
unfolding opt_octets two
opt_of_badvers = refl

-- ---- headers: of twelve octets or more
-- a header with ID 16 and RD, and a part of a question
abbrev begun : Octets
begun = 0 ∷ 16 ∷ 1 ∷ 0 ∷ 0 ∷ 1 ∷ 0 ∷ 0 ∷ 0 ∷ 0 ∷ 0 ∷ 0 ∷ 3 ∷ codes "ns1"

abbrev of_a_query : Header
of_a_query = record { id = 16; flags = 0x0100; counts = 1 ∷ 0 ∷ 0 ∷ 0 ∷ [] }

pub header_with_more_behind : header_of begun ≡ Some of_a_query
unfolding header_in number_of_two
header_with_more_behind = refl

pub header_of_twelve_octets : header_of (take 12 begun) ≡ Some of_a_query
unfolding header_in number_of_two
header_of_twelve_octets = refl

pub no_header_of_eleven : header_of (take 11 begun) ≡ None
no_header_of_eleven = refl

pub no_header_of_nothing : header_of [] ≡ None
no_header_of_nothing = refl

-- ---- shapes of records
-- all that computes a shape
shape_in : Octets → Option (Shape × Octets × Octets)
unfolding shape_of behind_owner behind_head head_in number_of_two number_of_four
shape_in octets = shape_of octets

abbrev shape : Bool → Kind → ℕ → ℕ → ℕ → Shape
shape root kind class ttl size = record {
  root = root;
  head = record {
    kind = kind;
    class = class;
    ttl = ttl;
    size =
        size;
  };
}

-- an A record of `www` and a pointer, with a TTL of 3600
abbrev address : Octets
address = 3 ∷ codes "www" ++ 192 ∷ 12 ∷ 0 ∷ 1 ∷ 0 ∷ 1 ∷ 0 ∷ 0 ∷ 14 ∷ 16 ∷ 0 ∷ 4 ∷ 192 ∷ 0 ∷ 2 ∷ 1 ∷ []

pub shape_of_an_address : shape_of address ≡ Some (shape false 1 1 3600 4, 192 ∷ 0 ∷ 2 ∷ 1 ∷ [], [])
unfolding shape_in
shape_of_an_address = refl

-- an OPT record of size 1232, version 1 and DO, whose RDATA has an option of no octets
abbrev opt_of_version_1 : Octets
opt_of_version_1 = 0 ∷ 0 ∷ 41 ∷ 4 ∷ 208 ∷ 0 ∷ 1 ∷ 128 ∷ 0 ∷ 0 ∷ 4 ∷ 0 ∷ 3 ∷ 0 ∷ 0 ∷ []

pub shape_with_an_option : shape_of opt_of_version_1 ≡ Some (shape true 41 1232 0x00018000 4, 0 ∷ 3 ∷ 0 ∷ 0 ∷ [], [])
unfolding shape_in
shape_with_an_option = refl

pub shape_without_rdata : shape_of (0 ∷ 0 ∷ 41 ∷ 4 ∷ 208 ∷ 0 ∷ 1 ∷ 128 ∷ 0 ∷ 0 ∷ 0 ∷ 0 ∷ 0 ∷ [])
    ≡ Some (shape true 41 1232 0x00018000 0, [], 0 ∷ 0 ∷ [])
unfolding shape_in
shape_without_rdata = refl

pub shape_behind_labels : shape_of (1 ∷ codes "a" ++ 2 ∷ codes "bc" ++ 0 ∷ 255 ∷ 0 ∷ 0 ∷ 255 ∷ 255 ∷ 255 ∷ 255 ∷ 255 ∷
    0 ∷ 1 ∷ codes "x" ++ 121 ∷ 122 ∷ [])
    ≡ Some (shape false 65280 255 4294967295 1, 120 ∷ [], 121 ∷ 122 ∷ [])
unfolding shape_in
shape_behind_labels = refl

pub shape_behind_a_pointer : shape_of (255 ∷ 255 ∷ 255 ∷ 0 ∷ 0 ∷ 255 ∷ 255 ∷ 255 ∷ 255 ∷ 255 ∷ 0 ∷ 0 ∷ [])
    ≡ Some (shape false 65280 255 4294967295 0, [], [])
unfolding shape_in
shape_behind_a_pointer = refl

-- every count below a number
abbrev below : ℕ → List ℕ
below zero = []
below (suc n) = n ∷ below n

pub no_shape_of_a_cut_address : map (λ n. shape_of (take n address)) (below 20) ≡ replicate 20 None
unfolding shape_in
no_shape_of_a_cut_address = refl

pub no_shape_of_a_cut_opt : map (λ n. shape_of (take n opt_of_version_1)) (below 15) ≡ replicate 15 None
unfolding shape_in
no_shape_of_a_cut_opt = refl

-- the top bits 01 and 10
pub no_shape_of_other_label_types : map shape_of ((64 ∷ 0 ∷ 1 ∷ 0 ∷ 1 ∷ 0 ∷ 0 ∷ 0 ∷ 0 ∷ 0 ∷ 0 ∷ 0 ∷ 0 ∷ 0 ∷ 0 ∷ []) ∷
    (128 ∷ 0 ∷ 1 ∷ 0 ∷ 1 ∷ 0 ∷ 0 ∷ 0 ∷ 0 ∷ 0 ∷ 0 ∷ 0 ∷ 0 ∷ 0 ∷ 0 ∷ []) ∷ (191 ∷ 0 ∷ 1 ∷ 0 ∷ 1 ∷ 0 ∷ 0 ∷ 0 ∷ 0 ∷ 0 ∷
    0 ∷ 0 ∷ 0 ∷ 0 ∷ 0 ∷ []) ∷ (1 ∷ codes "a" ++ 65 ∷ 0 ∷ 1 ∷ 0 ∷ 1 ∷ 0 ∷ 0 ∷ 0 ∷ 0 ∷ 0 ∷ 0 ∷ 0 ∷ 0 ∷ 0 ∷ []) ∷ [])
    ≡ replicate 4 None
unfolding shape_in
no_shape_of_other_label_types = refl

pub no_shape_without_an_end : map shape_of ((1 ∷ codes "a" ++ 192 ∷ []) ∷ (3 ∷ codes "www") ∷ []) ≡ replicate 2 None
unfolding shape_in
no_shape_without_an_end = refl

-- ---- flags (RFC 1035 section 4.1.1): QR is the highest bit, then opcode, AA, TC and RD; the code has the lowest
-- four
pub flags_of_a_notify : flags_number (record {
  response = true;
  opcode = 4;
  authoritative = true;
  truncated =
      false;
  recursion_desired = true;
  code = 3;
})
    ≡ 0xa503
unfolding flags_number
flags_of_a_notify = refl

-- QR, TC and REFUSED
pub is_a_response : is_response 0x8285 ≡ true
is_a_response = refl

pub opcode_0 : opcode_of 0x8285 ≡ 0
opcode_0 = refl

pub is_not_authoritative : is_authoritative 0x8285 ≡ false
is_not_authoritative = refl

pub is_cut : is_truncated 0x8285 ≡ true
is_cut = refl

pub wants_no_recursion : is_recursion_desired 0x8285 ≡ false
wants_no_recursion = refl

pub refused : code_of 0x8285 ≡ 5
refused = refl

-- ---- questions (RFC 1035 section 4.1.2): the AAAA record of www.example., whose name is a label and a pointer
abbrev asked : Octets
asked = 7 ∷ codes "Example" ++ 0 ∷ 3 ∷ codes "www" ++ 192 ∷ 0 ∷ 0 ∷ 28 ∷ 0 ∷ 1 ∷ []

pub question_with_a_pointer : question_at asked 9
    ≡ Ok (record { name = codes "www" ∷ codes "example" ∷ []; kind = 28; class = 1 }, 19)
unfolding question_at name_at name_from element_at number_of_two
question_with_a_pointer = refl

pub a_class_of_one_octet : question_at (take 18 asked) 9 ≡ Err Short
unfolding question_at name_at name_from element_at number_of_two
a_class_of_one_octet = refl

-- ---- the numbers of messages, so that none can change (RFC 1035 section 4.1, RFC 3225 section 3, RFC 6891 section
-- 6.1)
pub response_is_0x8000 : RESPONSE ≡ 0x8000
response_is_0x8000 = refl

pub opcode_is_0x0800 : OPCODE ≡ 0x0800
opcode_is_0x0800 = refl

pub codes_is_16 : CODES ≡ 16
codes_is_16 = refl

pub authoritative_is_0x0400 : AUTHORITATIVE ≡ 0x0400
authoritative_is_0x0400 = refl

pub truncated_is_0x0200 : TRUNCATED ≡ 0x0200
truncated_is_0x0200 = refl

pub recursion_desired_is_0x0100 : RECURSION_DESIRED ≡ 0x0100
recursion_desired_is_0x0100 = refl

pub question_octets_is_4 : QUESTION_OCTETS ≡ 4
question_octets_is_4 = refl

pub head_octets_is_10 : HEAD_OCTETS ≡ 10
head_octets_is_10 = refl

pub version_is_65536 : VERSION ≡ 65536
version_is_65536 = refl

pub versions_is_256 : VERSIONS ≡ 256
versions_is_256 = refl

pub dnssec_ok_is_0x8000 : DNSSEC_OK ≡ 0x8000
dnssec_ok_is_0x8000 = refl

pub pointer_is_192 : POINTER ≡ 192
pointer_is_192 = refl

pub buffer_octets_is_65537 : BUFFER_OCTETS ≡ 65537
buffer_octets_is_65537 = refl
