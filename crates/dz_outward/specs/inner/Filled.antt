-- Inner: messages that are left, by how far a stream was written.
use Rattle.std.specs.Prelude.{◌≡◌, ◌≤◌, ℕ, true, false, ◌==◌, List, [], ◌∷◌, ◌++◌, length, take, drop, filter}
use Rattle.std.specs.Prelude.{slice_get, Option, Some, None}
use Rattle.std.specs.List.{All}
use Rattle.dz_name.specs.Words.{Octets}
use Rattle.dz_name.specs.declared.dns.TheConstants.{MESSAGE_OCTETS}
use Rattle.dz_header.specs.declared.question.Question.{Question}
use Rattle.dz_record.specs.Record.{Record, record_octets}
use Rattle.dz_message.specs.Message.{Content}
use Rattle.dz_message.specs.Piece.{PieceState, Holds, packed, has_room, FitsAlone}
use Rattle.dz_message.specs.Writing.{message_octets}
use Rattle.dz_zone.specs.Version.{Zone}
use Rattle.dz_outward.specs.Stream.{is_other, soa_of, messages_of}
use Rattle.dz_outward.specs.declared.outgoing.Stage.{Stage}
use Rattle.dz_outward.specs.declared.outgoing.Stage.TheVariants.{Opening, Body, Over}

-- the records from a place on, and the SOA
abbrev pub rest_of : Zone → ℕ → List Record
rest_of zone place = filter is_other (drop place zone.records) ++ soa_of zone

-- the messages that are left
abbrev pub left_of : Zone → ℕ → Stage → List Content
left_of zone id Opening = messages_of id zone
left_of zone id (Body place) = packed id [] [] (rest_of zone place)
left_of zone id Over = []

-- a message that was begun took more records, up to a place
pub record Reaches (new : PieceState) (after : Octets) (id : ℕ) (questions : List Question)
    (current records : List Record) (start end : ℕ) : Type 0 where
  pub more : List Record
  pub holds : Holds new after id questions (current ++ more)
  pub same : (rest : List Record) → packed id questions current (filter is_other (drop start records) ++ rest)
      ≡ packed id questions (current ++ more) (filter is_other (drop end records) ++ rest)

-- what adding records from one place to another makes of any message that was begun
abbrev pub AddsUp : PieceState → Octets → PieceState → Octets → List Record → ℕ → ℕ → Type 0
AddsUp old before new after records start end = (id : ℕ) (questions : List Question) (current : List Record)
    → Holds old before id questions current → Reaches new after id questions current records start end

-- the record at a place has no room
abbrev pub IsStopped : PieceState → List Record → ℕ → Type 0
IsStopped piece records place = (r : Record) → slice_get records place ≡ Some r
    → (is_other r ≡ true) × (has_room (piece.count == 0) piece.size (length (record_octets r)) ≡ false)

-- a message at the beginning of a buffer is the next one, and the others are left
pub record Gives (before after : List Content) (count : ℕ) (out : Octets) : Type 0 where
  pub message : Content
  pub are : before ≡ message ∷ after
  pub octets : take count out ≡ message_octets message
  pub short : count ≤ MESSAGE_OCTETS

-- the next message is in the buffer, and the others are left; none where no message is left
abbrev pub GivesNext : Option (ℕ × Stage) → Zone → ℕ → Stage → Octets → Type 0
GivesNext None zone id stage out = left_of zone id stage ≡ []
GivesNext (Some next) zone id stage out = Gives (left_of zone id stage) (left_of zone id next.1) next.0 out

-- a version that can be sent: its records fit into messages
abbrev pub IsOutgoing : Zone → Type 0
IsOutgoing zone = All FitsAlone zone.records
