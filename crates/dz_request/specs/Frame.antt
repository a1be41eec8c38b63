-- Meaning: what surrounds the records of a reply, header, question and OPT, and the limit of the whole (RFC 1035
-- sections 4.1.1, 4.1.2 and 4.2, RFC 6891 sections 6.1 and 6.2.5).
use Rattle.std.specs.Prelude.{◌≡◌, ℕ, ◌+◌, nat_le, Bool, true, false, min, max, [], ◌∷◌, ◌++◌, length, take, drop}
use Rattle.std.specs.Prelude.{Option, Some, None, if◌then◌else◌}
use Rattle.dz_name.specs.declared.dns.TheConstants.{HEADER_OCTETS, MESSAGE_OCTETS, UDP_OCTETS, EDNS_OCTETS}
use Rattle.dz_header.specs.Code.{number_of}
use Rattle.dz_header.specs.Edns.{opt_count, opt_octets}
use Rattle.dz_header.specs.Flags.{flags_number, opcode_of, is_recursion_desired}
use Rattle.dz_header.specs.Header.{header_octets}
use Rattle.dz_header.specs.Writing.{Writing, also, empty, writing_of}
use Rattle.dz_header.specs.declared.edns.Edns.{Edns}
use Rattle.dz_header.specs.declared.header.Header.{Header}
use Rattle.dz_request.specs.declared.frame.Heading.{Heading}
use Rattle.dz_header.specs.declared.transport.Transport.{Transport}
use Rattle.dz_header.specs.declared.transport.Transport.TheVariants.{Udp, Tcp}
use Rattle.dz_request.specs.declared.request.Asked.{Asked}
use Rattle.dz_name.specs.Words.{Name, Octets}

-- whether the transport is TCP
abbrev pub is_tcp : Transport → Bool
is_tcp Udp = false
is_tcp Tcp = true

-- what a reply takes from a request: ID, flags, the octets of the question, its name, and EDNS
pub record Query : Type 0 where
  pub id : ℕ
  pub flags : ℕ
  pub echo : Octets
  pub name : Name
  pub edns : Option Edns

-- what a reply takes from this request; the octets of the question follow the header
abbrev pub query_of : Octets → Asked → Query
query_of octets asked = record {
  id = asked.header.id;
  flags = asked.header.flags;
  echo = take asked.size (drop HEADER_OCTETS octets);
  name = asked.question.name;
  edns = asked.edns;
}

-- the flags of a reply: QR, the request's opcode and RD, AA, TC, and the lower four bits of the code
abbrev pub reply_flags : ℕ → ℕ → Bool → Bool → ℕ
reply_flags asked code authoritative truncated = flags_number (record {
  response = true;
  opcode = opcode_of asked;
  authoritative = authoritative;
  truncated = truncated;
  recursion_desired = is_recursion_desired asked;
  code = code;
})

-- header and question of a reply; the last three numbers count its records
unfoldable pub head_octets : Query → ℕ → Bool → Bool → ℕ → ℕ → ℕ → Octets
head_octets query code authoritative truncated answers authority additional =
    header_octets (record {
      id = query.id;
      flags = reply_flags query.flags code authoritative truncated;
      counts = 1 ∷ answers ∷ authority ∷ additional ∷ [];
    }) ++ query.echo

-- header and question of a reply with this heading, which doesn't count the OPT record
abbrev pub heading_octets : Query → Heading → Octets
heading_octets query heading =
    head_octets query (number_of heading.code) heading.authoritative heading.truncated
    heading.answer heading.authority (heading.additional + opt_count query.edns)

-- the limit of a reply: 512 octets over UDP, with EDNS the requested size kept between 512 and 1232; 65,535 over TCP
abbrev pub limit_of : Bool → Option Edns → ℕ
limit_of true edns = MESSAGE_OCTETS
limit_of false None = UDP_OCTETS
limit_of false (Some edns) = min EDNS_OCTETS (max UDP_OCTETS edns.size)

-- a reply of which header and question are written
abbrev pub opening : Bool → Query → Heading → Writing
opening tcp query heading = also (empty (limit_of tcp query.edns)) (heading_octets query heading)

-- the heading with another count of the records of the additional section
abbrev pub with_additional : ℕ → Heading → Heading
with_additional count heading = record {
  code = heading.code;
  authoritative = heading.authoritative;
  truncated = heading.truncated;
  answer = heading.answer;
  authority = heading.authority;
  additional = count;
}

-- the reply where it exceeds its limit: header, question and OPT, with TC set (RFC 2181 section 9)
unfoldable pub cut_octets : Query → ℕ → Bool → Octets
cut_octets query code authoritative =
    head_octets query code authoritative true 0 0 (opt_count query.edns) ++ opt_octets code query.edns

-- a reply of these octets where they fit, and otherwise the truncated one
unfoldable pub within_limit : Bool → Query → ℕ → Bool → Octets → Octets
within_limit tcp query code authoritative octets =
    if nat_le (length octets) (limit_of tcp query.edns) then octets else cut_octets query code authoritative

-- a reply without records that isn't authoritative
unfoldable pub bare_octets : Query → ℕ → Octets
bare_octets query code = head_octets query code false false 0 0 (opt_count query.edns) ++ opt_octets code query.edns

-- a reply that is written: these octets where they fit, and otherwise the truncated one
abbrev pub reply_writing : Bool → Query → ℕ → Bool → Octets → Writing
reply_writing tcp query code authoritative octets =
    writing_of (limit_of tcp query.edns) (within_limit tcp query code authoritative octets)

-- the end of a reply: its OPT record follows what was written, and past the limit the reply is truncated
abbrev pub IsEnd : Bool → Query → ℕ → Bool → Writing → Writing → Type 0
IsEnd tcp query code authoritative old new =
    (front : Octets) → old ≡ also (empty (limit_of tcp query.edns)) front
    → new ≡ reply_writing tcp query code authoritative (front ++ opt_octets code query.edns)

-- a reply of twelve octets: ID, opcode and RD of the request, the code, and no counts
unfoldable pub curt_octets : Header → ℕ → Octets
curt_octets header code = header_octets (record {
  id = header.id;
  flags = reply_flags header.flags code false false;
  counts = 0 ∷ 0 ∷ 0 ∷ 0 ∷ [];
})
