-- Judge: replies to NOTIFY as a primary reads them (RFC 1996 section 3, RFC 1035 sections 4.1.1 and 4.1.2).
use Rattle.std.specs.Prelude.{◌≡◌, ℕ, ◌+◌, ⊤, false, [], ◌∷◌, drop, Option, Some, None, Ok}
use Rattle.dz_name.specs.Words.{Octets}
use Rattle.dz_name.specs.declared.dns.TheConstants.{HEADER_OCTETS}
use Rattle.dz_header.specs.Code.{number_of}
use Rattle.dz_header.specs.Edns.{opt_count, opt_octets}
use Rattle.dz_header.specs.Header.{header_in}
use Rattle.dz_header.specs.Question.{question_at}
use Rattle.dz_header.specs.declared.code.ResponseCode.{ResponseCode}
use Rattle.dz_request.specs.Frame.{reply_flags}
use Rattle.dz_request.specs.Request.{request}
use Rattle.dz_request.specs.declared.request.Asked.{Asked}
use Rattle.dz_request.specs.declared.request.Request.{Request}
use Rattle.dz_request.specs.declared.request.Request.TheVariants.{Silent, Curt, NewerEdns, NotImp, Notify, Asks}
use Rattle.dz_notify.specs.Reply.{code_for}
use Rattle.dz_notify.specs.declared.notify.Heard.{Heard}

-- ID and question are those of the request; QR, opcode, RD and response code are those of the reply; there are no
-- records but the OPT
pub record SpellsReply (asked : Asked) (code : ℕ) (text : Octets) : Type 0 where
  pub id : (header_in text).id ≡ asked.header.id
  pub flags : (header_in text).flags ≡ reply_flags asked.header.flags code false false
  pub counts : (header_in text).counts ≡ 1 ∷ 0 ∷ 0 ∷ opt_count asked.edns ∷ []
  pub question : question_at text HEADER_OCTETS ≡ Ok (asked.question, HEADER_OCTETS + asked.size)
  pub opt : drop (HEADER_OCTETS + asked.size) text ≡ opt_octets code asked.edns

-- the octets are a reply with this code; nothing is said where there is no code
abbrev pub SpellsCode : Asked → Option ResponseCode → Octets → Type 0
SpellsCode asked None text = ⊤
SpellsCode asked (Some code) text = SpellsReply asked (number_of code) text

-- the octets are the reply to a NOTIFY; nothing is said of other requests
abbrev pub ReadsBackFor : Heard → Request → Octets → Type 0
ReadsBackFor heard Silent text = ⊤
ReadsBackFor heard (Curt header code) text = ⊤
ReadsBackFor heard (NewerEdns asked) text = ⊤
ReadsBackFor heard (NotImp asked) text = ⊤
ReadsBackFor heard (Notify asked) text = SpellsCode asked (code_for heard) text
ReadsBackFor heard (Asks asked) text = ⊤

-- these octets, written as the reply to a NOTIFY, are read as that reply
unfoldable pub ReadsBack : Octets → Heard → Octets → Type 0
ReadsBack octets heard text = ReadsBackFor heard (request octets) text
