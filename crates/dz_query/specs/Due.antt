-- Meaning: the reply that is due to a request of a peer (RFC 1034 section 4.3.2, RFC 1996 section 3.10).
use Rattle.std.specs.Prelude.{ℕ, Bool, List, Option, Some, None}
use Rattle.dz_name.specs.Words.{Octets}
use Rattle.dz_io.specs.Packets.{Packet}
use Rattle.dz_notify.specs.Reply.{notify_reply_of}
use Rattle.dz_reply.specs.Reply.{Reply, nothing, written, notify}
use Rattle.dz_history.specs.declared.entry.Entry.{Entry}
use Rattle.dz_history.specs.Heard.{heard_at}
use Rattle.dz_query.specs.Answer.{reply_at}

-- the reply of the table, or to a NOTIFY the one by how it is heard
abbrev pub due_of : Reply → List Entry → Packet → Option Octets
due_of nothing list request = None
due_of (written text) list request = Some text
due_of (notify zone) list request = notify_reply_of request.octets (heard_at list request.peer zone)

-- the reply that is due after a list of taken transfers, at a moment in seconds, over TCP or UDP
unfoldable pub due : List Entry → Bool → Packet → ℕ → Option Octets
due list tcp request moment = due_of (reply_at list request.octets moment tcp) list request
