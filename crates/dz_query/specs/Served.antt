-- Meaning: requests that came to a worker one after the other, and what became of the replies that were due.
use Rattle.std.specs.Prelude.{⊤, ◌≡◌, ◌≤◌, ◌+◌, ℕ, Bool, true, false, List, [], ◌∷◌, length, map, take, Option, Some}
use Rattle.std.specs.Prelude.{None, IsSome, if◌then◌else◌}
use Rattle.std.specs.List.{flat_map}
use Rattle.dz_name.specs.Words.{Octets}
use Rattle.dz_io.specs.Packets.{Packet, packet}
use Rattle.dz_message.specs.Frame.{stream}
use Rattle.dz_notify.specs.Notify.{notify_zone_in}
use Rattle.dz_history.specs.declared.entry.Entry.{Entry}
use Rattle.dz_query.specs.Due.{due}
use Rattle.dz_query.specs.Sent.{asks_for_zone, sent}
use Rattle.dz_query.specs.declared.fate.Fate.{Fate}
use Rattle.dz_query.specs.declared.fate.Fate.TheVariants.{Sent, Lost, Unheard}

-- a request and its peer, how many entries the list had by which it was answered, the moment, and what became of the
-- reply
pub record Served : Type 0 where
  pub request : Packet
  pub upto : ℕ
  pub moment : ℕ
  pub fate : Fate

-- the requests, in their order
abbrev pub requests : List Served → List Packet
requests served = map (λ (s : Served). s.request) served

-- the moments at which they were answered
abbrev pub moments : List Served → List ℕ
moments served = map (λ (s : Served). s.moment) served

-- what went out of the reply that was due
abbrev pub sent_of : Fate → Option Octets → List Octets
sent_of Sent None = []
sent_of Sent (Some text) = text ∷ []
sent_of Lost reply = []
sent_of Unheard reply = []

-- what went out to a request: the reply is due by the beginning of the list, at the moment
abbrev pub sent_for : List Entry → Bool → Served → List Octets
sent_for list tcp s = sent_of s.fate (due (take s.upto list) tcp s.request s.moment)

-- over UDP each reply goes to the peer of its request
abbrev pub packets_to : Packet → List Octets → List Packet
packets_to request texts = map (λ text. packet text request.peer) texts

-- the replies that were sent over UDP, in their order
abbrev pub replies : List Entry → List Served → List Packet
replies list served = flat_map (λ (s : Served). packets_to s.request (sent_for list false s)) served

-- over TCP a listed address that asks for a whole zone gets it (RFC 5936 section 4.1), and all other requests what is
-- due
abbrev pub owed : List Octets → List Entry → Served → List Octets
owed downstream list s =
    if asks_for_zone downstream s.request then sent (take s.upto list) s.request s.moment else sent_for list true s

-- the replies of a session over TCP, each message preceded by its length (RFC 1035 section 4.2.2)
abbrev pub framed : List Octets → List Entry → List Served → Octets
framed downstream list served = stream (flat_map (owed downstream list) served)

-- what excuses that a NOTIFY got no reply, by whether any got none since it was not heard
abbrev pub excused : Bool → Type 0 → Type 0
excused true may_fail = may_fail
excused false may_fail = ⊥

-- a reply is left out only where a send failed, over UDP, or to a NOTIFY where the log may have failed
abbrev pub IsExcused : Type 0 → Bool → Fate → Packet → Type 0
IsExcused may_fail tcp Sent request = ⊤
IsExcused may_fail tcp Lost request = tcp ≡ false
IsExcused may_fail tcp Unheard request = may_fail × IsSome (notify_zone_in request.octets)

-- each was answered by a beginning of the list, at a moment that the clock may give; the beginnings never shrink
abbrev pub AreInTurn : Type 0 → (ℕ → Bool) → Bool → ℕ → List Entry → List Served → Type 0
AreInTurn may_fail may_give tcp from list [] = from ≤ length list
AreInTurn may_fail may_give tcp from list (s ∷ more) =
    (from ≤ s.upto) × (may_give s.moment ≡ true) × IsExcused may_fail tcp s.fate s.request
    × AreInTurn may_fail may_give tcp s.upto list more

-- one where a reply is missing since its send failed
abbrev pub loss : Fate → ℕ
loss Sent = 0
loss Lost = 1
loss Unheard = 0

-- how many replies are missing since a send failed
abbrev pub losses : List Served → ℕ
losses [] = 0
losses (s ∷ more) = loss s.fate + losses more
