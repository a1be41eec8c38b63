-- Meaning: the stream of a zone's version (RFC 5936 section 2.2).
use Rattle.std.specs.Prelude.{ℕ, ◌+◌, Bool, ◌==◌, ◌&&◌, not, nat_le, List, [], ◌∷◌, ◌++◌, length, filter}
use Rattle.std.specs.List.{list_all}
use Rattle.std.specs.Option.{option_to_list}
use Rattle.dz_name.specs.declared.dns.TheConstants.{CLASS_IN, TYPE_AXFR, TYPE_SOA, HEADER_OCTETS, MESSAGE_OCTETS}
use Rattle.dz_name.specs.declared.dns.TheConstants.{TRANSFER_OCTETS}
use Rattle.dz_header.specs.declared.question.Question.{Question}
use Rattle.dz_record.specs.Record.{Record, record_octets}
use Rattle.dz_message.specs.Frame.{stream}
use Rattle.dz_message.specs.Message.{Content}
use Rattle.dz_message.specs.Piece.{packed, written}
use Rattle.dz_zone.specs.Version.{Zone, apex_soa}

-- a record that isn't the SOA; a version has no other SOA than that of the apex
abbrev pub is_other : Record → Bool
is_other r = not (r.kind == TYPE_SOA)

-- the SOA of a version
abbrev pub soa_of : Zone → List Record
soa_of zone = option_to_list (apex_soa zone)

-- the SOA, the other records in canonical order, and the SOA again
abbrev pub sent_records : Zone → List Record
sent_records zone = soa_of zone ++ (filter is_other zone.records ++ soa_of zone)

-- the question for the whole zone
abbrev pub question_of : Zone → Question
question_of zone = record { name = zone.apex; kind = TYPE_AXFR; class = CLASS_IN }

-- the messages of the stream with an ID: the first has the question
abbrev pub messages_of : ℕ → Zone → List Content
messages_of id zone = packed id (question_of zone ∷ []) [] (sent_records zone)

-- a record fits into a message without a question
abbrev pub fits_alone : Record → Bool
fits_alone r = nat_le (HEADER_OCTETS + length (record_octets r)) MESSAGE_OCTETS

-- a version can be sent: each record fits into a message, and the frames together have at most 67,108,864 octets. That
-- number doesn't depend on the ID
abbrev pub is_fit : Zone → Bool
is_fit zone =
    list_all fits_alone zone.records && nat_le (length (stream (written (messages_of 0 zone)))) TRANSFER_OCTETS
