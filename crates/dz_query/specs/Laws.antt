-- Judge: what is sent of a zone is the zone (RFC 5936 section 2.2).
use Rattle.std.specs.Prelude.{◌≡◌, ℕ, ◌<◌, ◌^◌, true, List, Some}
use Rattle.dz_io.specs.Packets.{Packet}
use Rattle.dz_request.specs.Request.{request as read}
use Rattle.dz_request.specs.declared.request.Asked.{Asked}
use Rattle.dz_message.specs.Frame.{stream}
use Rattle.dz_zone.specs.Version.{Zone, IsVersion}
use Rattle.dz_take.specs.Outcome.{outcome}
use Rattle.dz_take.specs.Transfer.{new}
use Rattle.dz_outward.specs.Laws.{transfer_of}
use Rattle.dz_outward.specs.Stream.{is_fit}
use Rattle.dz_history.specs.declared.entry.Entry.{Entry}
use Rattle.dz_history.specs.After.{after}
use Rattle.dz_query.specs.Sent.{zone_asked, held_at, sent}

-- a request for a zone whose version is live and can be sent gets a stream whose outcome is that version
abbrev pub ComesBack : Type 0
ComesBack = (list : List Entry) (request : Packet) (moment : ℕ) (asked : Asked) (zone : Zone)
    → zone_asked (read request.octets) ≡ Some asked → asked.header.id < 2 ^ 16
    → held_at (after list).table asked.question.name moment ≡ Some (Some zone) → IsVersion zone → is_fit zone ≡ true
    → outcome (transfer_of asked.header.id zone) (stream (sent list request moment)) ≡ new zone
