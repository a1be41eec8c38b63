-- Meaning: what a request asks for (RFC 1035 section 4.1, RFC 1996 section 3, RFC 6891 section 6.1).
use Rattle.std.specs.Prelude.{ℕ, zero, suc, ◌≤◌, ◌+◌, ◌-◌, Bool, false, ◌==◌, ◌&&◌, ◌||◌, not, nat_lt, nat_le, length}
use Rattle.std.specs.Prelude.{drop, slice_index, Option, Some, None, Result, Ok, Err, if◌then◌else◌}
use Rattle.dz_name.specs.Name.{wire_of}
use Rattle.dz_name.specs.declared.dns.TheConstants.{HEADER_OCTETS, NAME_OCTETS, TYPE_OPT, TYPE_TKEY, TYPE_MAILA}
use Rattle.dz_name.specs.declared.dns.TheConstants.{TYPE_SOA, CLASS_IN, OPCODE_QUERY, OPCODE_NOTIFY}
use Rattle.dz_name.specs.declared.wire_fault.WireFault.{WireFault}
use Rattle.dz_header.specs.Edns.{edns_of}
use Rattle.dz_header.specs.Flags.{is_response, opcode_of}
use Rattle.dz_header.specs.Header.{header_in}
use Rattle.dz_header.specs.Question.{question_at}
use Rattle.dz_header.specs.Shape.{◌>>=◌, shape_of, behind_records}
use Rattle.dz_header.specs.declared.code.ResponseCode.TheVariants as codes
use Rattle.dz_header.specs.declared.edns.Edns.{Edns}
use Rattle.dz_header.specs.declared.header.Header.{Header}
use Rattle.dz_header.specs.declared.question.Question.{Question}
use Rattle.dz_header.specs.declared.question.TheConstants.{QUESTION_OCTETS}
use Rattle.dz_header.specs.declared.shape.Shape.{Shape}
use Rattle.dz_request.specs.declared.request.Asked.{Asked}
use Rattle.dz_request.specs.declared.request.Request.{Request}
use Rattle.dz_request.specs.declared.request.Request.TheVariants.{Silent, Curt, NewerEdns, NotImp, Notify, Asks}
use Rattle.dz_name.specs.Words.{Kind, Octets}

-- a question whose name has no pointer: the name has as many octets where it is as in its wire form. With a pointer,
-- two octets replace a wire form of one octet or more than two.
abbrev pub is_in_place : Question × ℕ → Bool
is_in_place found = found.1 == HEADER_OCTETS + (length (wire_of found.0.name) + QUESTION_OCTETS)

-- a question that was read, where its name has no pointer
abbrev pub without_pointer : Result (Question × ℕ) WireFault → Option (Question × ℕ)
without_pointer (Ok found) = if is_in_place found then Some found else None
without_pointer (Err fault) = None

-- the question after the header, and the offset after it
unfoldable pub question_in : Octets → Option (Question × ℕ)
question_in octets = without_pointer (question_at octets HEADER_OCTETS)

-- the OPT record that is found; a second one is not allowed (RFC 6891 section 6.1.1)
abbrev pub first_opt : Edns → Option Edns → Option (Option Edns)
first_opt edns None = Some (Some edns)
first_opt edns (Some other) = None

-- what is found with one more additional record: an OPT record has the root as owner name (RFC 6891 section 6.1.2)
unfoldable pub add_shape : Shape → Option Edns → Option (Option Edns)
add_shape shape found =
    if not (shape.head.kind == TYPE_OPT) then Some found
    else if shape.root then first_opt (edns_of shape.head) found
    else None

-- the OPT record among the additional records
unfoldable pub opt_in : ℕ → Octets → Option Edns → Option (Option Edns)
opt_in zero octets found = Some found
opt_in (suc count) octets found = do
  shape ← shape_of octets
  now ← add_shape shape.0 found
  opt_in count shape.2 now

-- a request that can be read, given its question: how many octets the question has, and EDNS
unfoldable pub asked_in : Octets → Header → Option (Question × ℕ) → Option Asked
asked_in octets header found = do
  question ← found
  rest ← behind_records (slice_index header.counts 1 + slice_index header.counts 2) (drop question.1 octets)
  edns ← opt_in (slice_index header.counts 3) rest None
  Some (record { header = header; question = question.0; size = question.1 - HEADER_OCTETS; edns = edns })

-- the same, where the header counts exactly one question
abbrev pub asked_of : Octets → Header → Option (Question × ℕ) → Option Asked
asked_of octets header found = if slice_index header.counts 0 == 1 then asked_in octets header found else None

-- query types that aren't answered: OPT, and those of transfers, transactions and mail (RFC 6895 section 3.1)
abbrev pub is_unasked : Kind → Bool
is_unasked kind = kind == TYPE_OPT || (nat_le TYPE_TKEY kind && nat_le kind TYPE_MAILA)

-- whether a version of EDNS other than 0 is used
abbrev pub is_newer : Option Edns → Bool
is_newer None = false
is_newer (Some edns) = not (edns.version == 0)

-- what a request that can be read asks for: the version of EDNS is judged first, then the class, the opcode and the
-- type
unfoldable pub asked_for : ℕ → Asked → Request
asked_for opcode asked =
    if is_newer asked.edns then NewerEdns asked
    else if not (asked.question.class == CLASS_IN) then NotImp asked
    else if opcode == OPCODE_QUERY then (if is_unasked asked.question.kind then NotImp asked else Asks asked)
    else if asked.question.kind == TYPE_SOA then Notify asked
    else NotImp asked

-- FORMERR where the request can't be read, and otherwise what it asks for
abbrev pub readable : Header → Option Asked → Request
readable header None = Curt header codes.FormErr
readable header (Some asked) = asked_for (opcode_of header.flags) asked

-- responses get no reply; opcodes other than QUERY and NOTIFY aren't implemented; then the request is read
unfoldable pub with_header : Octets → Header → Option (Question × ℕ) → Request
with_header octets header found =
    if is_response header.flags then Silent
    else if not (opcode_of header.flags == OPCODE_QUERY)
    && not (opcode_of header.flags == OPCODE_NOTIFY) then Curt header codes.NotImp
    else readable header (asked_of octets header found)

-- what these octets ask for; fewer than twelve get no reply
unfoldable pub request : Octets → Request
request octets =
    if nat_lt (length octets) HEADER_OCTETS then Silent else with_header octets (header_in octets) (question_in octets)

-- the question is within the request; a name has at most 255 octets, type and class have two each
pub record IsWhole (request : Octets) (size : ℕ) : Type 0 where
  pub within : HEADER_OCTETS + size ≤ length request
  pub short : size ≤ NAME_OCTETS + QUESTION_OCTETS

-- the header is complete, and the question that was read is within the octets
abbrev pub FitsIn : Octets → Request → Type 0
FitsIn octets Silent = Unit {0}
FitsIn octets (Curt header code) = HEADER_OCTETS ≤ length octets
FitsIn octets (NewerEdns asked) = IsWhole octets asked.size
FitsIn octets (NotImp asked) = IsWhole octets asked.size
FitsIn octets (Notify asked) = IsWhole octets asked.size
FitsIn octets (Asks asked) = IsWhole octets asked.size
