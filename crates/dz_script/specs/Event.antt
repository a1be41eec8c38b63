-- Meaning: the events of a script.
use Rattle.std.specs.Prelude.{ℕ, ◌-◌, ◌^◌, List, [], ◌∷◌, codes, Option, Some, None, if◌then◌else◌}
use Rattle.std.specs.Option.{option_and_then}
use Rattle.std.specs.Str.{bytes_eq}
use Rattle.dz_io.specs.declared.peer.Peer.{Peer}
use Rattle.dz_name.specs.Decimal.{number_of}
use Rattle.dz_settings.specs.Peer.{host_of}
use Rattle.dz_name.specs.Words.{Octets}
use Rattle.dz_header.specs.declared.transport.Transport.{Transport}
use Rattle.dz_header.specs.declared.transport.Transport.TheVariants.{Udp, Tcp}
use Rattle.dz_script.specs.Fields.{one, two}
use Rattle.dz_script.specs.Hex.{octets_in, taken_octets}
use Rattle.dz_script.specs.declared.line.Event.{Event}
use Rattle.dz_script.specs.declared.line.Event.TheVariants.{Job, Take, Fail, Ask}

-- tickets have 64 bits
abbrev pub ticket_of : Octets → Option ℕ
ticket_of text = number_of (2 ^ 64 - 1) text

-- no field follows `job`
abbrev pub job_of : List Octets → Option Event
job_of [] = Some Job
job_of (field ∷ fields) = None

-- a `take` of what its fields were read as
abbrev pub take_from : Option ℕ → Option Octets → Option Event
take_from (Some ticket) (Some octets) = Some (Take ticket octets)
take_from _ _ = None

-- `<ticket> <hex>`
abbrev pub take_of : List Octets → Option Event
take_of fields = option_and_then (λ f. take_from (ticket_of f.0) (taken_octets f.1)) (two fields)

-- a `fail` of what its field was read as
abbrev pub fail_from : Option ℕ → Option Event
fail_from (Some ticket) = Some (Fail ticket)
fail_from None = None

-- `<ticket>`
abbrev pub fail_of : List Octets → Option Event
fail_of fields = option_and_then (λ ticket. fail_from (ticket_of ticket)) (one fields)

-- a request over this transport, of what its fields were read as
abbrev pub ask_from : Transport → Option Peer → Option Octets → Option Event
ask_from transport (Some peer) (Some request) = Some (Ask transport peer request)
ask_from transport _ _ = None

-- `<address> <hex>`
abbrev pub ask_of : Transport → List Octets → Option Event
ask_of transport fields = option_and_then (λ f. ask_from transport (host_of f.0) (octets_in f.1)) (two fields)

-- an event, by its first field
abbrev pub event_of : List Octets → Option Event
event_of [] = None
event_of (word ∷ fields) =
    if bytes_eq word (codes "job") then job_of fields
    else if bytes_eq word (codes "take") then take_of fields
    else if bytes_eq word (codes "fail") then fail_of fields
    else if bytes_eq word (codes "udp") then ask_of Udp fields
    else if bytes_eq word (codes "tcp") then ask_of Tcp fields
    else None
