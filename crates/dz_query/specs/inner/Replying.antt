-- Inner: what one request led to.
use Rattle.std.specs.Prelude.{⊤, ◌≡◌, ◌≤◌, ℕ, Bool, true, List, [], length, Option, Some, None, IsSome}
use Rattle.dz_name.specs.Words.{Octets}
use Rattle.dz_name.specs.declared.dns.TheConstants.{MESSAGE_OCTETS}
use Rattle.dz_header.specs.Writing.{Writing}
use Rattle.dz_io.specs.Packets.{Packet}
use Rattle.dz_notify.specs.Notify.{notify_zone_in}
use Rattle.dz_query.specs.Served.{sent_of}
use Rattle.dz_query.specs.declared.answered.Answered.{Answered}
use Rattle.dz_query.specs.declared.answered.Answered.TheVariants as answered
use Rattle.dz_query.specs.declared.fate.Fate.{Fate}
use Rattle.dz_query.specs.declared.fate.Fate.TheVariants as fate

-- a reply that was written is the one that is due
pub record IsText (count : ℕ) (w : Writing) (due : Option Octets) : Type 0 where
  pub text : Octets
  pub written : w.octets ≡ Some text
  pub counts : count ≡ length text
  pub short : length text ≤ MESSAGE_OCTETS
  pub is : due ≡ Some text

-- a request led to the reply that is due, to none where none is due, or is a NOTIFY that wasn't heard
abbrev pub IsAnswered : Type 0 → Answered → Writing → Packet → Option Octets → Type 0
IsAnswered may_fail answered.Silent w request due = due ≡ None
IsAnswered may_fail (answered.Written count) w request due = IsText count w due
IsAnswered may_fail answered.Unheard w request due = may_fail × IsSome (notify_zone_in request.octets)

-- whether a reply is missing, after one more
abbrev pub has_lost : Bool → Fate → Bool
has_lost lost fate.Sent = lost
has_lost lost fate.Lost = true
has_lost lost fate.Unheard = lost

-- whether a NOTIFY was not heard, after one more request
abbrev pub has_unheard : Bool → Fate → Bool
has_unheard unheard fate.Sent = unheard
has_unheard unheard fate.Lost = unheard
has_unheard unheard fate.Unheard = true

-- the fate of the reply where what was written goes out
abbrev pub fate_of : Answered → Fate
fate_of answered.Silent = fate.Sent
fate_of (answered.Written count) = fate.Sent
fate_of answered.Unheard = fate.Unheard

-- the texts that go out, where what was written goes out
abbrev pub texts_of : Answered → Writing → List Octets
texts_of answered.Silent w = []
texts_of (answered.Written count) w = sent_of fate.Sent w.octets
texts_of answered.Unheard w = []

-- a reply was written, of this many octets, and they fit after their length
pub record IsShortText (count : ℕ) (w : Writing) : Type 0 where
  pub text : Octets
  pub written : w.octets ≡ Some text
  pub counts : count ≡ length text
  pub short : length text ≤ MESSAGE_OCTETS

-- what was written, where anything was, fits after its length
abbrev pub IsShort : Answered → Writing → Type 0
IsShort answered.Silent w = ⊤
IsShort (answered.Written count) w = IsShortText count w
IsShort answered.Unheard w = ⊤
