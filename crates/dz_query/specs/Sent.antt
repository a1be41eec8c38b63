-- Meaning: what is sent to a listed address that asks for a whole zone (RFC 5936 sections 2.2 and 4.1).
use Rattle.std.specs.Prelude.{ℕ, Bool, ◌==◌, ◌&&◌, List, [], ◌∷◌, Option, Some, None, option_map, is_some}
use Rattle.std.specs.Prelude.{if◌then◌else◌}
use Rattle.std.specs.List.{list_any}
use Rattle.std.specs.Str.{bytes_eq}
use Rattle.dz_name.specs.Words.{Name, Octets}
use Rattle.dz_name.specs.declared.dns.TheConstants.{CLASS_IN, OPCODE_QUERY, TYPE_AXFR}
use Rattle.dz_io.specs.Packets.{Packet}
use Rattle.dz_io.specs.declared.peer.Peer.{Peer}
use Rattle.dz_header.specs.Code.{number_of}
use Rattle.dz_header.specs.Flags.{opcode_of}
use Rattle.dz_header.specs.declared.code.ResponseCode.{ResponseCode}
use Rattle.dz_header.specs.declared.code.ResponseCode.TheVariants as codes
use Rattle.dz_request.specs.Frame.{query_of, bare_octets}
use Rattle.dz_request.specs.Request.{request as read}
use Rattle.dz_request.specs.declared.request.Asked.{Asked}
use Rattle.dz_request.specs.declared.request.Request.{Request}
use Rattle.dz_request.specs.declared.request.Request.TheVariants.{Silent, Curt, NewerEdns, NotImp, Notify, Asks}
use Rattle.dz_zone.specs.Version.{Zone}
use Rattle.dz_table.specs.Slot.{SlotOf, is_live}
use Rattle.dz_table.specs.Table.{slot_of}
use Rattle.dz_message.specs.Piece.{written}
use Rattle.dz_outward.specs.Stream.{messages_of, is_fit}
use Rattle.dz_history.specs.declared.entry.Entry.{Entry}
use Rattle.dz_history.specs.After.{after}

-- a question for a whole zone: opcode QUERY, class IN, type AXFR (RFC 5936 section 2.1)
abbrev pub is_for_zone : Asked → Bool
is_for_zone asked = opcode_of asked.header.flags
    == OPCODE_QUERY && (asked.question.class == CLASS_IN && asked.question.kind == TYPE_AXFR)

-- the question of a request, where it is for a whole zone, which otherwise has NOTIMP
abbrev pub zone_asked : Request → Option Asked
zone_asked Silent = None
zone_asked (Curt header code) = None
zone_asked (NewerEdns asked) = None
zone_asked (NotImp asked) = if is_for_zone asked then Some asked else None
zone_asked (Notify asked) = None
zone_asked (Asks asked) = None

-- the peer has one of these addresses
abbrev pub is_listed : List Octets → Peer → Bool
is_listed downstream peer = list_any (λ address. bytes_eq address peer.address) downstream

-- a request for a whole zone from one of these addresses
abbrev pub transfer_in : List Octets → Packet → Option Asked
transfer_in downstream request = if is_listed downstream request.peer then zone_asked (read request.octets) else None

-- whether it is such a request
abbrev pub asks_for_zone : List Octets → Packet → Bool
asks_for_zone downstream request = is_some (transfer_in downstream request)

-- an error: header and question of the request, without records (RFC 5936 section 2.2.1)
abbrev pub refusal : Octets → Asked → ResponseCode → List Octets
refusal octets asked code = bare_octets (query_of octets asked) (number_of code) ∷ []

-- the version by which a member answers at a moment
abbrev pub live_version : ℕ → SlotOf → Option Zone
live_version moment slot = if is_live slot moment then slot.version else None

-- of a member: the messages of the version (RFC 5936 section 2.2), or SERVFAIL where it isn't live or can't be sent
abbrev pub sent_of_member : Octets → Asked → Option Zone → List Octets
sent_of_member octets asked None = refusal octets asked codes.ServFail
sent_of_member octets asked (Some zone) =
    if is_fit zone then written (messages_of asked.header.id zone) else refusal octets asked codes.ServFail

-- NOTAUTH for a name that isn't a member
abbrev pub sent_of_name : Octets → Asked → Option (Option Zone) → List Octets
sent_of_name octets asked None = refusal octets asked codes.NotAuth
sent_of_name octets asked (Some version) = sent_of_member octets asked version

-- what is known of a name at a moment: its version, or that it has none; none where it isn't a member
abbrev pub held_at : List SlotOf → Name → ℕ → Option (Option Zone)
held_at slots zone moment = option_map (live_version moment) (slot_of zone slots)

-- the messages that answer a request, by the list; none where it isn't for a whole zone
abbrev pub sent_to : List Entry → Octets → ℕ → Option Asked → List Octets
sent_to list octets moment None = []
sent_to list octets moment (Some asked) =
    sent_of_name octets asked (held_at (after list).table asked.question.name moment)

-- the messages that answer a request for a whole zone, after a list of taken transfers, at a moment
unfoldable pub sent : List Entry → Packet → ℕ → List Octets
sent list request moment = sent_to list request.octets moment (zone_asked (read request.octets))
