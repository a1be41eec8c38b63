-- Meaning: what comes of the octets of a transfer, which the first message that decides anything decides (RFC 5936
-- section 2.2, RFC 1995 section 4).
use Rattle.std.specs.Prelude.{◌≡◌, ℕ, suc, ◌<◌, Bool, false, ◌==◌, ◌&&◌, not, nat_lt, is_some, List, [], ◌∷◌, ◌++◌}
use Rattle.std.specs.Prelude.{length, take, slice_index_or, Option, Some, None, Result, Ok, Err, if◌then◌else◌}
use Rattle.std.specs.List.{flat_map}
use Rattle.dz_name.specs.Words.{Octets}
use Rattle.dz_name.specs.Name.{same_name}
use Rattle.dz_name.specs.declared.dns.TheConstants.{CLASS_IN, OPCODE_QUERY, TRANSFER_OCTETS}
use Rattle.dz_record.specs.Record.{Record}
use Rattle.dz_header.specs.Code.{number_of}
use Rattle.dz_header.specs.Flags.{is_response, opcode_of, code_of}
use Rattle.dz_header.specs.declared.code.ResponseCode.TheVariants.{NoError}
use Rattle.dz_header.specs.declared.question.Question.{Question}
use Rattle.dz_message.specs.Frame.{stream, messages_in}
use Rattle.dz_message.specs.Message.{Content}
use Rattle.dz_message.specs.Reading.{message_of}
use Rattle.dz_message.specs.declared.fault.MessageFault.{MessageFault}
use Rattle.dz_take.specs.declared.outcome.TakeFault.TheVariants.{Incomplete, Message, WrongId, WrongQuestion, Rcode}
use Rattle.dz_take.specs.declared.outcome.TakeFault.TheVariants.{TooLong}
use Rattle.dz_take.specs.Form.{form, or_else}
use Rattle.dz_take.specs.Transfer.{Transfer, Decision, refused, kind_of}

-- the answer records of a message; octets that aren't a message have none
abbrev pub answers_of : Result Content MessageFault → List Record
answers_of (Ok m) = m.answers
answers_of (Err fault) = []

-- the answer records in the octets of a message
unfoldable pub answers_in : Octets → List Record
answers_in message = answers_of (message_of message)

-- the answer records of all messages, joined
unfoldable pub answers : List Octets → List Record
answers messages = flat_map answers_in messages

-- a message is a response with opcode QUERY to this ID
abbrev pub responds : ℕ → Content → Bool
responds id m = m.header.id == id && (is_response m.header.flags && opcode_of m.header.flags == OPCODE_QUERY)

-- the response code of a message is NOERROR
abbrev pub has_no_error : Content → Bool
has_no_error m = code_of m.header.flags == number_of NoError

-- a question is that of the query
abbrev pub is_asked : Transfer → Question → Bool
is_asked transfer q = same_name q.name transfer.apex && (q.kind == kind_of transfer.ask && q.class == CLASS_IN)

-- the first message repeats the question, each other has it or none (RFC 5936 section 2.2.1)
abbrev pub fits_question : Transfer → Bool → List Question → Bool
fits_question transfer is_first [] = not is_first
fits_question transfer is_first (q ∷ []) = is_asked transfer q
fits_question transfer is_first (q ∷ r ∷ questions) = false

-- what a message decides after others, once it is read
abbrev pub judge_content : Transfer → List Octets → Result Content MessageFault → Option Decision
judge_content transfer front (Err fault) = Some (refused (Message fault))
judge_content transfer front (Ok m) =
    if not (responds transfer.id m) then Some (refused WrongId)
    else if not (has_no_error m) then Some (refused (Rcode (code_of m.header.flags)))
    else if not (fits_question transfer (length front == 0) m.questions) then Some (refused WrongQuestion)
    else form transfer (answers front ++ m.answers)

-- what a message decides after those before it; none: more is to come
unfoldable pub judge : Transfer → List Octets → Octets → Option Decision
judge transfer front message =
    if nat_lt TRANSFER_OCTETS (length (stream (front ++ message ∷ []))) then Some (refused TooLong)
    else judge_content transfer front (message_of message)

-- what the first of these messages that decides anything decides, after others
unfoldable pub decided_from : Transfer → List Octets → List Octets → Option Decision
decided_from transfer front [] = None
decided_from transfer front (message ∷ messages) =
    or_else (judge transfer front message) (decided_from transfer (front ++ message ∷ []) messages)

-- what messages decide; none: more is to come
abbrev pub decided : Transfer → List Octets → Option Decision
decided transfer messages = decided_from transfer [] messages

-- a decision, or Incomplete where there is none
abbrev pub or_incomplete : Option Decision → Decision
or_incomplete (Some decision) = decision
or_incomplete None = refused Incomplete

-- what comes of the octets of a stream
abbrev pub outcome : Transfer → Octets → Decision
outcome transfer octets = or_incomplete (decided transfer (messages_in octets))

-- the same as a least number: message number k decides this, and none before it decides
pub record DecidesAt (transfer : Transfer) (messages : List Octets) (k : ℕ) (decision : Decision) : Type 0 where
  pub within : k < length messages
  pub decides : judge transfer (take k messages) (slice_index_or messages k []) ≡ Some decision
  pub first : (j : ℕ) → j < k → judge transfer (take j messages) (slice_index_or messages j []) ≡ None

-- how many messages are read: those up to the first that decides, or all
unfoldable pub read_from : Transfer → List Octets → List Octets → ℕ
read_from transfer front [] = 0
read_from transfer front (message ∷ messages) =
    if is_some (judge transfer front message) then 1
    else suc (read_from transfer (front ++ message ∷ []) messages)

-- how many octets of a stream are used: those of the messages up to the first that decides; where none does, all
abbrev pub octets_used : Transfer → Octets → ℕ
octets_used transfer octets =
    if is_some (decided transfer (messages_in octets))
    then length (stream (take (read_from transfer [] (messages_in octets)) (messages_in octets)))
    else length octets
