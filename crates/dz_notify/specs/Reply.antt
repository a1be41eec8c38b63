-- Meaning: the reply to a NOTIFY (RFC 1996 sections 3.10 and 3.11, RFC 2136 section 2.2).
use Rattle.std.specs.Prelude.{◌≡◌, ℕ, length, Option, Some, None, option_map}
use Rattle.dz_name.specs.Words.{Octets}
use Rattle.dz_header.specs.Code.{number_of}
use Rattle.dz_header.specs.Writing.{Writing}
use Rattle.dz_header.specs.declared.code.ResponseCode.{ResponseCode}
use Rattle.dz_header.specs.declared.code.ResponseCode.TheVariants.{NoError, NotAuth}
use Rattle.dz_request.specs.Frame.{query_of, bare_octets}
use Rattle.dz_request.specs.Request.{request}
use Rattle.dz_request.specs.declared.request.Request.{Request}
use Rattle.dz_request.specs.declared.request.Request.TheVariants.{Silent, Curt, NewerEdns, NotImp, Notify, Asks}
use Rattle.dz_notify.specs.declared.notify.Heard.{Heard}
use Rattle.dz_notify.specs.declared.notify.Heard.TheVariants.{Taken, Stranger, NotOurs}

-- a primary gets NOERROR, and whoever asks about a zone that isn't served gets NOTAUTH; a stranger gets no reply (RFC
-- 1996 section 3.10)
abbrev pub code_for : Heard → Option ResponseCode
code_for Taken = Some NoError
code_for Stranger = None
code_for NotOurs = Some NotAuth

-- the reply to this request: header, question and OPT record, as in every reply without records
unfoldable pub notify_reply_for : Octets → Heard → Request → Option Octets
notify_reply_for octets heard Silent = None
notify_reply_for octets heard (Curt header code) = None
notify_reply_for octets heard (NewerEdns asked) = None
notify_reply_for octets heard (NotImp asked) = None
notify_reply_for octets heard (Notify asked) =
    option_map (λ code. bare_octets (query_of octets asked) (number_of code)) (code_for heard)
notify_reply_for octets heard (Asks asked) = None

-- the reply to a NOTIFY received in this way, if it gets one
unfoldable pub notify_reply_of : Octets → Heard → Option Octets
notify_reply_of octets heard = notify_reply_for octets heard (request octets)

-- what a call returns and what it wrote are the reply
abbrev pub IsWritten : Option ℕ → Writing → Option Octets → Type 0
IsWritten None w reply = reply ≡ None
IsWritten (Some count) w reply = (text : Octets) × (w.octets ≡ Some text) × (count ≡ length text) × (reply ≡ Some text)
