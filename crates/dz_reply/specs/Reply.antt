-- Meaning: the reply to a request (RFC 1034 section 4.3.2, RFC 1035 section 4.1.1, RFC 1996 section 3).
use Rattle.std.specs.Prelude.{◌≡◌, ◌≤◌, ⊤, ℕ, Bool, List, length, Option, Some, None, if◌then◌else◌}
use Rattle.dz_name.specs.Words.{Name, Octets, Kind}
use Rattle.dz_header.specs.Code.{number_of}
use Rattle.dz_header.specs.Writing.{Writing}
use Rattle.dz_header.specs.declared.code.ResponseCode.TheVariants.{BadVers, ServFail, Refused}
use Rattle.dz_header.specs.declared.code.ResponseCode.TheVariants as codes
use Rattle.dz_header.specs.declared.writer.TheConstants.{BUFFER_OCTETS}
use Rattle.dz_request.specs.Frame.{query_of, curt_octets}
use Rattle.dz_request.specs.Request.{request}
use Rattle.dz_request.specs.declared.request.Request.{Request}
use Rattle.dz_request.specs.declared.request.Request.TheVariants.{Silent, Curt, NewerEdns, NotImp, Notify, Asks}
use Rattle.dz_zone.specs.Version.{Zone}
use Rattle.dz_table.specs.Slot.{SlotOf, is_live}
use Rattle.dz_table.specs.Table.{closest_for}
use Rattle.dz_reply.specs.Answer.{Sections, bare, octets_of}
use Rattle.dz_reply.specs.Secure.{asks_dnssec, sections_for}
use Rattle.dz_reply.specs.declared.reply.Turn.{Turn}
use Rattle.dz_reply.specs.declared.reply.Turn.TheVariants as turns

-- no reply, these octets, or what is still to be decided of a NOTIFY for this name
pub data Reply : Type 0 where
  nothing : Reply
  written : Octets → Reply
  notify : Name → Reply

-- the answer of a slot's version: SERVFAIL where none is held
abbrev pub at_version : Bool → Option Zone → Name → Kind → Sections
at_version dnssec None name kind = bare (number_of ServFail)
at_version dnssec (Some zone) name kind = sections_for dnssec zone name kind

-- the answer of the closest enclosing zone: REFUSED without one, SERVFAIL where it isn't live at the moment
abbrev pub at_slot : Bool → Option SlotOf → ℕ → Name → Kind → Sections
at_slot dnssec None moment name kind = bare (number_of Refused)
at_slot dnssec (Some slot) moment name kind =
    if is_live slot moment then at_version dnssec slot.version name kind else bare (number_of ServFail)

-- the reply to a request as it was read
unfoldable pub reply_for : List SlotOf → Octets → ℕ → Bool → Request → Reply
reply_for slots octets moment tcp Silent = nothing
reply_for slots octets moment tcp (Curt header code) = written (curt_octets header (number_of code))
reply_for slots octets moment tcp (NewerEdns asked) =
    written (octets_of tcp (query_of octets asked) (bare (number_of BadVers)))
reply_for slots octets moment tcp (NotImp asked) =
    written (octets_of tcp (query_of octets asked) (bare (number_of codes.NotImp)))
reply_for slots octets moment tcp (Notify asked) = notify asked.question.name
reply_for slots octets moment tcp (Asks asked) =
    written (octets_of tcp (query_of octets asked) (at_slot (asks_dnssec asked.edns)
    (closest_for slots asked.question.name asked.question.kind) moment asked.question.name asked.question.kind))

-- the reply of these slots at a moment, over TCP or UDP
unfoldable pub reply_of : List SlotOf → Octets → ℕ → Bool → Reply
reply_of slots octets moment tcp = reply_for slots octets moment tcp (request octets)

-- what a call answers and what it wrote are the reply
abbrev pub IsReply : Turn → Writing → Reply → Type 0
IsReply turns.Silent w reply = reply ≡ nothing
IsReply (turns.Written count) w reply =
    (text : Octets) × (w.octets ≡ Some text) × (count ≡ length text) × (reply ≡ written text)
IsReply (turns.Notify name) w reply = reply ≡ notify name

-- what was written fits in a buffer of 65,537 octets
abbrev pub FitsBuffer : Turn → Type 0
FitsBuffer turns.Silent = ⊤
FitsBuffer (turns.Written count) = count ≤ BUFFER_OCTETS
FitsBuffer (turns.Notify name) = ⊤

-- whether a request is answered as a NOTIFY, and for which name, depends neither on the slots nor on moment and
-- transport
abbrev pub IsNotifyAnyhow : Turn → Octets → Type 0
IsNotifyAnyhow turns.Silent octets = ⊤
IsNotifyAnyhow (turns.Written count) octets = ⊤
IsNotifyAnyhow (turns.Notify name) octets =
    (slots : List SlotOf) (moment : ℕ) (tcp : Bool) → reply_of slots octets moment tcp ≡ notify name
