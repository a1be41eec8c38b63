-- Answer: what a session over a link owes for the messages that came over it (RFC 1035 section 4.2.2).
use Rattle.std.specs.Prelude.{⊤, ◌≡◌, ℕ, Bool, true, List, [], ◌∷◌, ◌++◌, length, map, Option, IsSome}
use Rattle.dz_name.specs.Words.{Octets}
use Rattle.dz_io.specs.Counts.{HasRisen, HasRisenBy}
use Rattle.dz_io.specs.Device.{Gains, GainsPrefix, IsAtEnd}
use Rattle.dz_io.specs.Packets.{Packet, packet}
use Rattle.dz_io.specs.declared.peer.Peer.{Peer}
use Rattle.dz_message.specs.Frame.{messages_in}
use Rattle.dz_history.specs.declared.entry.Entry.{Entry}
use Rattle.dz_query.specs.Sent.{asks_for_zone}
use Rattle.dz_query.specs.Served.{Served, requests, moments, framed, AreInTurn}
use Rattle.dz_query.specs.declared.stream.StreamEnd.{StreamEnd}
use Rattle.dz_query.specs.declared.stream.StreamEnd.TheVariants.{Ended, Failed, OutOfMemory}

-- what the link, the reading and the clock tell: the octets read and written, the sights, and the moments
pub record Flow : Type 0 where
  pub read : Option Octets
  pub written : Option Octets
  pub sights : ℕ
  pub moments : Option (List ℕ)

-- these four as one record
abbrev pub flow : Option Octets → Option Octets → ℕ → Option (List ℕ) → Flow
flow read written sights moments = record { read = read; written = written; sights = sights; moments = moments }

-- the whole messages of a stream, as requests of a peer
abbrev pub requests_in : Peer → Octets → List Packet
requests_in peer octets = map (λ message. packet message peer) (messages_in octets)

-- octets were read, and the whole messages in them were answered, each at the moment in its place; each had a look of
-- its own
pub record AreRead (may_fail : Type 0) (may_give : ℕ → Bool) (from : ℕ) (list : List Entry) (peer : Peer)
    (before now : Flow) (served : List Served) : Type 0 where
  pub octets : Octets
  pub read : Gains octets before.read now.read
  pub are : requests served ≡ requests_in peer octets
  pub turns : AreInTurn may_fail may_give true from list served
  pub given : IsSome now.moments → Gains (moments served) before.moments now.moments
  pub sights : HasRisenBy (length served) before.sights now.sights

-- all replies were written
pub record HasEnded (downstream : List Octets) (may_fail : Type 0) (may_give : ℕ → Bool) (from : ℕ) (list : List Entry)
    (peer : Peer) (before now : Flow) : Type 0 where
  pub served : List Served
  pub asked : AreRead may_fail may_give from list peer before now served
  pub written : Gains (framed downstream list served) before.written now.written

-- a prefix of the replies was written
pub record HasBroken (downstream : List Octets) (may_fail : Type 0) (may_give : ℕ → Bool) (from : ℕ)
    (list : List Entry) (peer : Peer) (before now : Flow) : Type 0 where
  pub served : List Served
  pub asked : AreRead may_fail may_give from list peer before now served
  pub written : GainsPrefix (framed downstream list served) before.written now.written

-- the last request asked for a whole zone, and all replies before it were written, and nothing of its own
pub record HasStarved (downstream : List Octets) (may_fail : Type 0) (may_give : ℕ → Bool) (from : ℕ)
    (list : List Entry) (peer : Peer) (before now : Flow) : Type 0 where
  pub served : List Served
  pub last : Served
  pub asked : AreRead may_fail may_give from list peer before now (served ++ last ∷ [])
  pub zone : asks_for_zone downstream last.request ≡ true
  pub written : Gains (framed downstream list served) before.written now.written

-- a session over a link by its end: all replies were written, a prefix of them, or those before memory ran out
abbrev pub IsStream : StreamEnd → List Octets → Type 0 → (ℕ → Bool) → ℕ → List Entry → Peer → Flow → Flow → Type 0
IsStream Ended downstream may_fail may_give from list peer before now =
    HasEnded downstream may_fail may_give from list peer before now
IsStream Failed downstream may_fail may_give from list peer before now =
    HasBroken downstream may_fail may_give from list peer before now
IsStream OutOfMemory downstream may_fail may_give from list peer before now =
    HasStarved downstream may_fail may_give from list peer before now

-- nothing is left where the link ended, and its count of faults rose where it failed
abbrev pub EndsBy : StreamEnd → Option Octets → ℕ → ℕ → Type 0
EndsBy Ended left before now = IsAtEnd left
EndsBy Failed left before now = HasRisen before now
EndsBy OutOfMemory left before now = ⊤
