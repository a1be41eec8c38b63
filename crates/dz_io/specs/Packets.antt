-- Meaning: the packets that a datagram device reports, those that it received and those that were sent.
use Rattle.std.specs.Prelude.{◌≡◌, ◌≤◌, ℕ, Bool, true, List, [], ◌∷◌, take, length, Option}
use Rattle.dz_io.specs.Device.{Gains}
use Rattle.dz_io.specs.declared.peer.Peer.{Peer}
use Rattle.dz_io.specs.declared.datagrams.Received.{Received}
use Rattle.dz_io.specs.declared.datagrams.Received.TheVariants as received

-- the octets of a datagram, and the peer that it came from or went to
pub record Packet : Type 0 where
  pub octets : List ℕ
  pub peer : Peer

-- a packet with these octets and this peer
abbrev pub packet : List ℕ → Peer → Packet
packet octets peer = record { octets = octets; peer = peer }

-- a packet was received, and is at the beginning of the buffer; or none was
abbrev pub Receives : Received → List ℕ → Option (List Packet) → Option (List Packet) → Type 0
Receives (received.Packet n peer) buffer before after =
    (n ≤ length buffer) × Gains (packet (take n buffer) peer ∷ []) before after
Receives received.Closed buffer before after = after ≡ before

-- a device is marked as closed once it has returned Closed
abbrev pub Closes : Received → Bool → Bool → Type 0
Closes (received.Packet n peer) before after = after ≡ before
Closes received.Closed before after = after ≡ true
