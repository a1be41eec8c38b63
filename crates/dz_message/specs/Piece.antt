-- Meaning: the messages of an outgoing transfer: each takes the records that it has room for (RFC 5936 section 2.2).
use Rattle.std.specs.Prelude.{◌≡◌, ℕ, ◌+◌, ◌≤◌, Bool, true, false, ◌==◌, ◌&&◌, ◌||◌, nat_le, List, [], ◌∷◌, ◌++◌}
use Rattle.std.specs.Prelude.{length, take, map, if◌then◌else◌}
use Rattle.std.specs.List.{flat_map}
use Rattle.dz_name.specs.Words.{Octets}
use Rattle.dz_name.specs.declared.dns.TheConstants.{MESSAGE_OCTETS, HEADER_OCTETS}
use Rattle.dz_header.specs.Header.{header_octets}
use Rattle.dz_header.specs.declared.question.Question.{Question}
use Rattle.dz_record.specs.Record.{Record, record_octets}
use Rattle.dz_message.specs.Frame.{stream}
use Rattle.dz_message.specs.Message.{Content}
use Rattle.dz_message.specs.Writing.{message_octets, question_octets}
use Rattle.dz_name.specs.declared.dns.TheConstants.{LENGTH_OCTETS}
use Rattle.dz_message.specs.declared.piece.TheConstants.{PIECE_OCTETS, ANSWER_FLAGS}

-- how many octets and how many answer records a message has so far
pub record PieceState : Type 0 where
  pub size : ℕ
  pub count : ℕ

-- a message that has begun has a header and at most 65,535 octets, and no more records than octets
pub record IsPiece (piece : PieceState) : Type 0 where
  pub long : HEADER_OCTETS ≤ piece.size
  pub short : piece.size ≤ MESSAGE_OCTETS
  pub few : piece.count ≤ piece.size

-- a message with AA set, and with these questions and answer records
abbrev pub answer_message : ℕ → List Question → List Record → Content
answer_message id questions answers = record {
  header = record { id = id; flags = ANSWER_FLAGS; counts = length questions ∷ length answers ∷ 0 ∷ 0 ∷ [] };
  questions = questions;
  answers = answers;
}

-- how many octets a message with these questions and records has
unfoldable pub size_of : List Question → List Record → ℕ
size_of questions answers =
    HEADER_OCTETS + (length (flat_map question_octets questions) + length (flat_map record_octets answers))

-- this many more octets keep a message within 65,535, and within 16,384 unless it has no record
abbrev pub has_room : Bool → ℕ → ℕ → Bool
has_room is_empty size more = nat_le (size + more) MESSAGE_OCTETS && (is_empty || nat_le (size + more) PIECE_OCTETS)

-- the state of a message with these questions and answer records
abbrev pub piece_of : List Question → List Record → PieceState
piece_of questions answers = record { size = size_of questions answers; count = length answers }

-- the header of a message before its answers are counted
unfoldable pub head_octets : ℕ → ℕ → Octets
head_octets id asked = header_octets (record { id = id; flags = ANSWER_FLAGS; counts = asked ∷ 0 ∷ 0 ∷ 0 ∷ [] })

-- the octets of a message with these questions and records before its answers are counted
unfoldable pub begun_octets : ℕ → List Question → List Record → Octets
begun_octets id questions answers =
    head_octets id (length questions) ++ (flat_map question_octets questions ++ flat_map record_octets answers)

-- a buffer begins with this message, whose answers aren't counted in its header yet
pub record Holds (piece : PieceState) (out : Octets) (id : ℕ) (questions : List Question)
    (answers : List Record) : Type 0 where
  pub state : piece ≡ piece_of questions answers
  pub octets : take piece.size out ≡ begun_octets id questions answers

-- records packed into messages, of which the first has the questions: each takes as many as it has room for. The first
-- has already taken `current`
unfoldable pub packed : ℕ → List Question → List Record → List Record → List Content
packed id questions current [] = answer_message id questions current ∷ []
packed id questions current (r ∷ rs) =
    if has_room (length current == 0) (size_of questions current) (length (record_octets r))
    then packed id questions (current ++ r ∷ []) rs
    else answer_message id questions current ∷ packed id [] (r ∷ []) rs

-- the octets of each message
abbrev pub written : List Content → List Octets
written messages = map message_octets messages

-- a record fits in a message without a question
abbrev pub FitsAlone : Record → Type 0
FitsAlone r = HEADER_OCTETS + length (record_octets r) ≤ MESSAGE_OCTETS

-- what was counted: the octets of the earlier messages, each preceded by its length, and those of the last one, which
-- may be without a record
pub record TallyState : Type 0 where
  pub before : ℕ
  pub size : ℕ
  pub is_empty : Bool

-- a tally with these numbers
abbrev pub tally_of : ℕ → ℕ → Bool → TallyState
tally_of before size is_empty = record { before = before; size = size; is_empty = is_empty }

-- how many octets all messages have, including the length before each
abbrev pub total_of : TallyState → ℕ
total_of t = t.before + (LENGTH_OCTETS + t.size)

-- the tally after one more record of this many octets
abbrev pub tallied : TallyState → ℕ → TallyState
tallied t more =
    if has_room t.is_empty t.size more then tally_of t.before (t.size + more) false
    else tally_of (total_of t) (HEADER_OCTETS + more) false

-- how many octets all messages have once these records, too, are packed after those that were counted
unfoldable pub octets_behind : TallyState → List Record → ℕ
octets_behind t [] = total_of t
octets_behind t (r ∷ rs) = octets_behind (tallied t (length (record_octets r))) rs

-- the tally before the first record, with a question of this many octets
abbrev pub nothing_counted : ℕ → TallyState
nothing_counted question = tally_of 0 (HEADER_OCTETS + question) true

-- one more record: the messages that ended were put out, and another is being built
pub record GoesOn (next : PieceState) (buffer out_before out_now : Octets) (id : ℕ) (questions : List Question)
    (current : List Record) (r : Record) : Type 0 where
  pub asked : List Question
  pub taken : List Record
  pub holds : Holds next buffer id asked taken
  pub same : (rest : List Record) → out_now ++ stream (written (packed id asked taken rest)) ≡ out_before
      ++ stream (written (packed id questions current (r ∷ rest)))

-- messages were put out, another is being built, and with the remaining records they make the whole
pub record IsPacking (piece : PieceState) (buffer out : Octets) (id : ℕ) (rest : List Record)
    (whole : Octets) : Type 0 where
  pub asked : List Question
  pub taken : List Record
  pub holds : Holds piece buffer id asked taken
  pub same : out ++ stream (written (packed id asked taken rest)) ≡ whole
