-- Meaning: datagram devices, acceptors, dialers, ports and clocks in memory, as their contracts see them.
use Rattle.std.specs.Prelude.{◌≡◌, ◌==◌, ◌||◌, ◌+◌, ◌-◌, ◌^◌, ℕ, Bool, false, List, [], ◌∷◌, ◌++◌, Option, Some, None}
use Rattle.std.specs.Prelude.{map, min, unwrap_or, if◌then◌else◌}
use Rattle.std.specs.List.{slice_get, list_any, range_with_len}
use Rattle.dz_io.specs.Memory.{CallsOf, LinkOf, no_calls}
use Rattle.dz_io.specs.Packets.{Packet}
use Rattle.dz_io.specs.Links.{Dialled, dialled}
use Rattle.dz_io.specs.Ports.{Row, Exchange, Accepts, Dials, exchange, accepts, dials}
use Rattle.dz_io.specs.declared.peer.Peer.{Peer}
use Rattle.dz_io.specs.declared.ports.Place.{Place}

-- the input of a device, and the numbers of its calls that are to fail, counted from 0
pub record SetupOf (T : Type 0) : Type 0 where
  pub coming : List T
  pub failing : List ℕ

-- the octets that a link gives, and the numbers of its calls that are to fail
pub record StreamOf : Type 0 where
  pub octets : List ℕ
  pub failing : List ℕ

-- a peer that connects, and what its link gives
pub record CallerOf : Type 0 where
  pub peer : Peer
  pub stream : StreamOf

-- the link that gives these octets, from which nothing was read
abbrev pub fresh_link : StreamOf → LinkOf
fresh_link stream =
    record { tape = record { given = []; left = stream.octets }; written = []; calls = no_calls stream.failing }

-- what is reported of a link that came back
abbrev pub told_link : Peer → LinkOf → Dialled
told_link peer link = dialled peer (Some link.tape.given) (Some link.tape.left) (Some link.written) link.calls.faults

-- a datagram device: the packets that it received, those that are still to come, and those that were sent
pub record DatagramsOf : Type 0 where
  pub received : List Packet
  pub coming : List Packet
  pub sent : List Packet
  pub is_closed : Bool
  pub calls : CallsOf

-- a datagram device with this input that has received and sent nothing
abbrev pub fresh_datagrams : SetupOf Packet → DatagramsOf
fresh_datagrams setup =
    record { received = []; coming = setup.coming; sent = []; is_closed = false; calls = no_calls setup.failing }

-- an acceptor: the peers that are still to connect, and the links that came back
pub record AcceptorOf : Type 0 where
  pub coming : List CallerOf
  pub back : List Dialled
  pub out : Option Peer
  pub is_closed : Bool
  pub calls : CallsOf

-- an acceptor with this input that has given no link
abbrev pub fresh_acceptor : SetupOf CallerOf → AcceptorOf
fresh_acceptor setup =
    record { coming = setup.coming; back = []; out = None; is_closed = false; calls = no_calls setup.failing }

-- a dialer: what the next links give, and the links that came back
pub record DialerOf : Type 0 where
  pub coming : List StreamOf
  pub back : List Dialled
  pub out : Option Peer
  pub calls : CallsOf

-- a dialer with this input that has given no link
abbrev pub fresh_dialer : SetupOf StreamOf → DialerOf
fresh_dialer setup = record { coming = setup.coming; back = []; out = None; calls = no_calls setup.failing }

-- the calls of a device after the faults of something that came back are added
abbrev pub covering : ℕ → CallsOf → CallsOf
covering brought calls = record calls { faults = min (calls.faults + brought) (2 ^ 64 - 1) }

-- the devices of one kind of ports: those that can still be opened, where devices were opened, how many are out, and
-- those that came back
pub record ShelfOf (P S D : Type 0) : Type 0 where
  pub ready : List (SetupOf S)
  pub opened : List P
  pub out : ℕ
  pub back : List D

-- a shelf of which nothing was opened
abbrev pub fresh_shelf : {P S D : Type 0} → List (SetupOf S) → ShelfOf P S D
fresh_shelf ready = record { ready = ready; opened = []; out = 0; back = [] }

-- the next device is opened, at this place
abbrev pub Opens : {P S D : Type 0} → P → SetupOf S → ShelfOf P S D → ShelfOf P S D → Type 0
Opens place setup before after = (before.ready ≡ setup ∷ after.ready)
    × (after ≡ record before { ready = after.ready; opened = before.opened ++ place ∷ []; out = before.out + 1 })

-- the devices after one came back
abbrev pub put_back : {P S D : Type 0} → D → ShelfOf P S D → ShelfOf P S D
put_back device shelf = record shelf { out = shelf.out - 1; back = shelf.back ++ device ∷ [] }

-- ports, with a single count of calls for the openings of all kinds
pub record PortsOf : Type 0 where
  pub datagrams : ShelfOf Place Packet DatagramsOf
  pub acceptors : ShelfOf Place CallerOf AcceptorOf
  pub dialers : ShelfOf ℕ StreamOf DialerOf
  pub calls : CallsOf

-- what ports report of the devices of one kind, given what each device reports
abbrev pub row_of : {P S D T : Type 0} → (D → T) → ShelfOf P S D → Row P T
row_of tells shelf = record { opened = Some shelf.opened; out = shelf.out; back = Some (map tells shelf.back) }

-- what is reported of a datagram device in memory
abbrev pub exchange_of : DatagramsOf → Exchange
exchange_of device = exchange (Some device.received) (Some device.sent) device.is_closed device.calls.faults

-- what is reported of an acceptor in memory
abbrev pub accepts_of : AcceptorOf → Accepts
accepts_of device = accepts (Some device.back) device.out device.is_closed device.calls.faults

-- what is reported of a dialer in memory
abbrev pub dials_of : DialerOf → Dials
dials_of device = dials (Some device.back) device.out device.calls.faults

-- a clock: its moments, and the last, which repeats after them; how many it gave, and how often it can still rest
pub record ClockOf : Type 0 where
  pub moments : List ℕ
  pub last : ℕ
  pub count : ℕ
  pub rests : ℕ

-- the moment with this number, counted from 0
abbrev pub moment_at : ClockOf → ℕ → ℕ
moment_at clock n = unwrap_or (slice_get clock.moments n) clock.last

-- the moments that were given, in order, until the counter is at its maximum
abbrev pub moments_given : ClockOf → Option (List ℕ)
moments_given clock =
    if clock.count == 2 ^ 64 - 1 then None else Some (map (moment_at clock) (range_with_len 0 clock.count))

-- whether the clock may give this moment
abbrev pub has_moment : ClockOf → ℕ → Bool
has_moment clock moment = list_any (λ listed. listed == moment) clock.moments || (clock.last == moment)
