-- Meaning: what ports report of the devices that they open, one row for each of three kinds.
use Rattle.std.specs.Prelude.{◌≡◌, ◌+◌, ◌-◌, ℕ, Bool, false, List, [], ◌∷◌, ◌++◌, Option, None, option_map}
use Rattle.dz_io.specs.Device.{Tells}
use Rattle.dz_io.specs.Packets.{Packet}
use Rattle.dz_io.specs.Links.{Dialled}
use Rattle.dz_io.specs.declared.peer.Peer.{Peer}
use Rattle.dz_io.specs.declared.ports.Place.{Place}

-- devices of one kind: where they were opened, how many are out, and what those that came back report
pub record Row (P T : Type 0) : Type 0 where
  pub opened : Option (List P)
  pub out : ℕ
  pub back : Option (List T)

-- the row after one more was opened, at this place
abbrev pub opening : {P T : Type 0} → P → Row P T → Row P T
opening place row =
    record { opened = option_map (λ places. places ++ place ∷ []) row.opened; out = row.out + 1; back = row.back }

-- the row after one came back, which reports this
abbrev pub closing : {P T : Type 0} → T → Row P T → Row P T
closing told row =
    record { opened = row.opened; out = row.out - 1; back = option_map (λ devices. devices ++ told ∷ []) row.back }

-- the address and port that a device listens on, and the worker that it is for
abbrev pub place : Peer → ℕ → Place
place listen worker = record { listen = listen; worker = worker }

-- what a datagram device reports
pub record Exchange : Type 0 where
  pub received : Option (List Packet)
  pub sent : Option (List Packet)
  pub is_closed : Bool
  pub faults : ℕ

-- a datagram device that reports this
abbrev pub exchange : Option (List Packet) → Option (List Packet) → Bool → ℕ → Exchange
exchange received sent is_closed faults =
    record { received = received; sent = sent; is_closed = is_closed; faults = faults }

-- it has received and sent nothing, is not closed and has no fault
pub record IsFreshExchange (device : Exchange) : Type 0 where
  pub unreceived : Tells [] device.received
  pub unsent : Tells [] device.sent
  pub open_yet : device.is_closed ≡ false
  pub faultless : device.faults ≡ 0

-- what an acceptor reports: the links that came back, and the peer of the one that is out
pub record Accepts : Type 0 where
  pub links : Option (List Dialled)
  pub out : Option Peer
  pub is_closed : Bool
  pub faults : ℕ

-- an acceptor that reports this
abbrev pub accepts : Option (List Dialled) → Option Peer → Bool → ℕ → Accepts
accepts links out is_closed faults = record { links = links; out = out; is_closed = is_closed; faults = faults }

-- it has accepted nothing, has nothing out, is not closed and has no fault
pub record IsFreshAccepts (device : Accepts) : Type 0 where
  pub unaccepted : Tells [] device.links
  pub none_out : device.out ≡ None
  pub open_yet : device.is_closed ≡ false
  pub faultless : device.faults ≡ 0

-- what a dialer reports: the links that came back, and the peer of the one that is out
pub record Dials : Type 0 where
  pub links : Option (List Dialled)
  pub out : Option Peer
  pub faults : ℕ

-- a dialer that reports this
abbrev pub dials : Option (List Dialled) → Option Peer → ℕ → Dials
dials links out faults = record { links = links; out = out; faults = faults }

-- it has dialled nothing, has nothing out and has no fault
pub record IsFreshDials (device : Dials) : Type 0 where
  pub undialled : Tells [] device.links
  pub none_out : device.out ≡ None
  pub faultless : device.faults ≡ 0
