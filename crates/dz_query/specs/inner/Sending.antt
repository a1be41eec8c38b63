-- Inner: what goes out to a request over a link.
use Rattle.std.specs.Prelude.{⊤, ◌≡◌, ℕ, true, List, ◌++◌, Option, Some, None, if◌then◌else◌}
use Rattle.std.specs.Arc.{arc_value}
use Rattle.dz_name.specs.Words.{Octets}
use Rattle.dz_header.specs.Writing.{Writing}
use Rattle.dz_io.specs.Packets.{Packet}
use Rattle.dz_io.specs.Device.{Gains}
use Rattle.dz_message.specs.Frame.{stream}
use Rattle.dz_message.specs.Message.{Content}
use Rattle.dz_message.specs.Piece.{written}
use Rattle.dz_zone.specs.Version.{Zone}
use Rattle.dz_history.specs.declared.entry.Entry.{Entry}
use Rattle.dz_query.specs.Due.{due}
use Rattle.dz_query.specs.Sent.{asks_for_zone, sent}
use Rattle.dz_query.specs.Served.{sent_of, IsExcused}
use Rattle.dz_query.specs.inner.Replying.{fate_of, texts_of, IsShort}
use Rattle.dz_query.specs.declared.fate.Fate.{Fate}
use Rattle.dz_query.specs.declared.fate.Fate.TheVariants as fate
use Rattle.dz_query.specs.declared.outward.Held.{Held}
use Rattle.dz_query.specs.declared.outward.Held.TheVariants as held
use Rattle.dz_query.specs.declared.sending.Sending.{Sending}
use Rattle.dz_query.specs.declared.sending.Sending.TheVariants as sending

-- what is held of a name
abbrev pub held_of : Held → Option (Option Zone)
held_of held.Nothing = None
held_of held.Dead = Some None
held_of (held.Version version) = Some (Some (arc_value version))

-- what goes out to a request by a list
abbrev pub owed_by : List Octets → List Entry → Packet → ℕ → Fate → List Octets
owed_by downstream list request moment fate =
    if asks_for_zone downstream request then sent list request moment else sent_of fate (due list true request moment)

-- the messages that go out
abbrev pub texts_in : Sending → Writing → List Octets
texts_in (sending.Reply answered) w = texts_of answered w
texts_in (sending.Zone messages) w = written messages

-- the fate of what goes out
abbrev pub fate_in : Sending → Fate
fate_in (sending.Reply answered) = fate_of answered
fate_in (sending.Zone messages) = fate.Sent

-- a reply that goes out fits after its length
abbrev pub FitsFrame : Sending → Writing → Type 0
FitsFrame (sending.Reply answered) w = IsShort answered w
FitsFrame (sending.Zone messages) w = ⊤

-- these messages go out, each after its length
pub record Sends (s : Sending) (w : Writing) (messages : List Octets) : Type 0 where
  pub goes : texts_in s w ≡ messages
  pub sent : fate_in s ≡ fate.Sent
  pub short : FitsFrame s w

-- what goes out is what is owed, and fits after its length
pub record IsSending (may_fail : Type 0) (s : Sending) (w : Writing) (request : Packet)
    (owed : Fate → List Octets) : Type 0 where
  pub goes : texts_in s w ≡ owed (fate_in s)
  pub excused : IsExcused may_fail true (fate_in s) request
  pub short : FitsFrame s w

-- the first of these messages were written, each after its length, and the others are left
pub record IsGoing (all left : List Content) (before now : Option Octets) : Type 0 where
  pub gone : List Content
  pub are : gone ++ left ≡ all
  pub written : Gains (stream (written gone)) before now
