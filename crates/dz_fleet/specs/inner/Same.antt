-- Inner: whether jobs are the same, part by part.
use Rattle.std.specs.Prelude.{Bool, true, false, ◌==◌, ◌&&◌}
use Rattle.std.specs.Str.{bytes_eq}
use Rattle.dz_name.specs.Name.{same_name}
use Rattle.dz_io.specs.declared.peer.Peer.{Peer}
use Rattle.dz_take.specs.declared.ask.Ask.{Ask}
use Rattle.dz_take.specs.declared.ask.Ask.TheVariants.{Axfr, Ixfr}
use Rattle.dz_job.specs.declared.flight.Flight.{Flight}

-- two jobs ask for the same form
abbrev pub same_ask : Ask → Ask → Bool
same_ask Axfr Axfr = true
same_ask Axfr Ixfr = false
same_ask Ixfr Axfr = false
same_ask Ixfr Ixfr = true

-- two peers have the same address and port
abbrev pub same_peer : Peer → Peer → Bool
same_peer a b = bytes_eq a.address b.address && a.port == b.port

-- two jobs ask the same primary for the same at the same moment, with the same ID
abbrev pub same_query : Flight → Flight → Bool
same_query a b = same_ask a.ask b.ask && (a.id == b.id && (same_peer a.primary b.primary && a.moment == b.moment))

-- two jobs have one ticket, and were handed out by lists of one length
abbrev pub same_number : Flight → Flight → Bool
same_number a b = a.ticket == b.ticket && a.entries == b.entries

-- two jobs have one ticket, one length of the list, one incarnation of a zone and one query
abbrev pub same_flight : Flight → Flight → Bool
same_flight a b = same_number a b && (same_name a.zone b.zone && (a.incarnation == b.incarnation && same_query a b))
