-- Inner: octets that are read until a message is whole.
use Rattle.std.specs.Prelude.{◌≡◌, ◌≤◌, ◌<◌, ℕ, Bool, true, List, length, take, map, Option, None, IsSome}
use Rattle.dz_name.specs.Words.{Octets}
use Rattle.dz_name.specs.declared.dns.TheConstants.{MESSAGE_OCTETS}
use Rattle.dz_io.specs.Counts.{HasRisenBy}
use Rattle.dz_io.specs.Device.{Gains, IsAtEnd}
use Rattle.dz_io.specs.Packets.{packet}
use Rattle.dz_io.specs.declared.peer.Peer.{Peer}
use Rattle.dz_message.specs.Frame.{frame, stream, first_size, AreShort}
use Rattle.dz_history.specs.declared.entry.Entry.{Entry}
use Rattle.dz_query.specs.Served.{Served, requests, moments, framed, AreInTurn}
use Rattle.dz_query.specs.Stream.{Flow}
use Rattle.dz_query.specs.declared.came.Filled.{Filled}
use Rattle.dz_query.specs.declared.came.Filled.TheVariants as filled
use Rattle.dz_query.specs.declared.came.Came.{Came}
use Rattle.dz_query.specs.declared.came.Came.TheVariants as came

-- fewer octets were read than a buffer holds
pub record FallsShort (room : ℕ) (before after : Option Octets) : Type 0 where
  pub part : Octets
  pub short : length part < room
  pub gains : Gains part before after

-- the whole buffer was read, or fewer octets, since the source ended or failed
abbrev pub IsFilled : Filled → Octets → Option Octets → Option Octets → Option Octets → Type 0
IsFilled filled.Whole buffer before after left = Gains buffer before after
IsFilled filled.Ended buffer before after left = FallsShort (length buffer) before after × IsAtEnd left
IsFilled filled.Failed buffer before after left = FallsShort (length buffer) before after

-- octets were read that hold no whole message
pub record IsPart (before after : Option Octets) : Type 0 where
  pub part : Octets
  pub none : first_size part ≡ None
  pub gains : Gains part before after

-- a message is at the front of the buffer; or the link ended or failed before it was whole
abbrev pub HasCome : Came → Octets → Option Octets → Option Octets → Option Octets → Type 0
HasCome (came.Message size) buffer before after left =
    (size ≤ MESSAGE_OCTETS) × Gains (frame (take size buffer)) before after
HasCome came.Ended buffer before after left = IsPart before after × IsAtEnd left
HasCome came.Failed buffer before after left = IsPart before after

-- whole messages were read, and their replies written
pub record IsFlowing (downstream : List Octets) (may_fail : Type 0) (may_give : ℕ → Bool) (from : ℕ)
    (list : List Entry) (peer : Peer) (before now : Flow) : Type 0 where
  pub served : List Served
  pub messages : List Octets
  pub short : AreShort messages
  pub are : requests served ≡ map (λ message. packet message peer) messages
  pub turns : AreInTurn may_fail may_give true from list served
  pub read : Gains (stream messages) before.read now.read
  pub written : Gains (framed downstream list served) before.written now.written
  pub given : IsSome now.moments → Gains (moments served) before.moments now.moments
  pub sights : HasRisenBy (length served) before.sights now.sights
