-- Judge: replies as a resolver reads them: the octets of a reply spell a message (RFC 1035 sections 4.1 to 4.1.4).
use Rattle.std.specs.Prelude.{◌≡◌, ℕ, ◌+◌, ◌<◌, ◌≤◌, Bool, true, false, List, [], ◌∷◌, length, drop, Option}
use Rattle.dz_record.specs.Record.{Record}
use Rattle.dz_header.specs.Header.{header_in}
use Rattle.dz_header.specs.declared.edns.Edns.{Edns}
use Rattle.dz_header.specs.declared.question.Question.{Question}
use Rattle.dz_message.specs.Spelling.{IsQuestion, IsRecordAt, Each}
use Rattle.dz_table.specs.Slot.{SlotOf}
use Rattle.dz_table.specs.Table.{closest_for}
use Rattle.dz_reply.specs.Secure.{asks_dnssec}
use Rattle.dz_header.specs.Code.{number_of}
use Rattle.dz_header.specs.Edns.{opt_count, opt_octets}
use Rattle.dz_header.specs.declared.header.Header.{Header}
use Rattle.dz_header.specs.declared.code.ResponseCode.TheVariants.{BadVers}
use Rattle.dz_header.specs.declared.code.ResponseCode.TheVariants as codes
use Rattle.dz_name.specs.declared.dns.TheConstants.{HEADER_OCTETS}
use Rattle.dz_request.specs.Frame.{Query, query_of, reply_flags, limit_of}
use Rattle.dz_reply.specs.Answer.{Sections, bare, whole_octets}
use Rattle.dz_reply.specs.Reply.{at_slot}
use Rattle.dz_request.specs.Request.{request}
use Rattle.dz_request.specs.declared.request.Request.{Request}
use Rattle.dz_request.specs.declared.request.Request.TheVariants.{Silent, Curt, NewerEdns, NotImp, Notify, Asks}
use Rattle.dz_name.specs.Words.{Octets}

-- a message with a question, records in its three sections and the OPT record of EDNS, and nothing more (RFC 1035
-- section 4.1)
pub record SpellsSections (octets : Octets) (question : Question) (edns : Option Edns) (code : ℕ)
    (answer authority additional : List Record) : Type 0 where
  pub answers_at : ℕ
  pub authority_at : ℕ
  pub additional_at : ℕ
  pub opt_at : ℕ
  -- the header section is always present (RFC 1035 section 4.1.1)
  pub long : HEADER_OCTETS ≤ length octets
  -- its counts are the numbers of entries in the question section and of resource records in the answer, authority
  -- records and additional records sections (RFC 1035 section 4.1.1)
  pub counts : (header_in octets).counts
      ≡ 1 ∷ length answer ∷ length authority ∷ (length additional + opt_count edns) ∷ []
  -- the question follows the header
  pub asked : IsQuestion octets HEADER_OCTETS question answers_at
  -- the records of the three sections follow it, one after the other, their names in full or with pointers to a prior
  -- occurrence of the same name (RFC 1035 section 4.1.4)
  pub answers : Each (IsRecordAt octets) answers_at answer authority_at
  pub authorities : Each (IsRecordAt octets) authority_at authority additional_at
  pub additionals : Each (IsRecordAt octets) additional_at additional opt_at
  -- after these comes the OPT record, which is one of the additional records (RFC 6891 section 6.1.1), and nothing
  -- more
  pub opt : drop opt_at octets ≡ opt_octets code edns

-- TC says that the message was too long for the transport (RFC 1035 section 4.1.1). Without it the message has the
-- records of all three sections, and with it none of them (RFC 2181 section 9).
abbrev pub SpellsAsMuch : Bool → Bool → Query → Question → Sections → Octets → Type 0
SpellsAsMuch false tcp query question s octets =
    (length (whole_octets query s) ≤ limit_of tcp query.edns)
    × SpellsSections octets question query.edns s.code s.answer s.authority s.additional
SpellsAsMuch true tcp query question s octets =
    (limit_of tcp query.edns < length (whole_octets query s))
    × SpellsSections octets question query.edns s.code [] [] []

-- the ID is copied from the request; QR, opcode, AA, TC, RD and response code are those of the reply (RFC 1035 section
-- 4.1.1)
pub record SpellsReply (tcp : Bool) (query : Query) (question : Question) (s : Sections)
    (octets : Octets) : Type 0 where
  pub truncated : Bool
  pub id : (header_in octets).id ≡ query.id
  pub flags : (header_in octets).flags ≡ reply_flags query.flags s.code s.authoritative truncated
  pub sections : SpellsAsMuch truncated tcp query question s octets

-- the header alone, with the ID of the request and no entries in any section: the reply to a request of which no more
-- can be read (RFC 1035 section 4.1.1)
pub record SpellsCurt (request : Header) (code : ℕ) (octets : Octets) : Type 0 where
  pub alone : length octets ≡ HEADER_OCTETS
  pub id : (header_in octets).id ≡ request.id
  pub flags : (header_in octets).flags ≡ reply_flags request.flags code false false
  pub counts : (header_in octets).counts ≡ 0 ∷ 0 ∷ 0 ∷ 0 ∷ []

-- what a reply spells, by what its request asks for; its question section carries the question of the request (RFC
-- 1035 section 4.1.2). Of no reply and of a NOTIFY nothing is said.
abbrev pub ReadsBackFor : List SlotOf → Octets → ℕ → Bool → Request → Octets → Type 0
ReadsBackFor slots request moment tcp Silent octets = Unit {0}
ReadsBackFor slots request moment tcp (Curt header code) octets = SpellsCurt header (number_of code) octets
ReadsBackFor slots request moment tcp (NewerEdns asked) octets =
    SpellsReply tcp (query_of request asked) asked.question (bare (number_of BadVers)) octets
ReadsBackFor slots request moment tcp (NotImp asked) octets =
    SpellsReply tcp (query_of request asked) asked.question (bare (number_of codes.NotImp)) octets
ReadsBackFor slots request moment tcp (Notify asked) octets = Unit {0}
ReadsBackFor slots request moment tcp (Asks asked) octets =
    SpellsReply tcp (query_of request asked) asked.question
    (at_slot (asks_dnssec asked.edns) (closest_for slots asked.question.name asked.question.kind) moment
    asked.question.name asked.question.kind) octets

-- these octets, as a reply of these slots to a request at a moment, over TCP or UDP, read as the reply
unfoldable pub ReadsBack : List SlotOf → Octets → ℕ → Bool → Octets → Type 0
ReadsBack slots octets moment tcp text = ReadsBackFor slots octets moment tcp (request octets) text
