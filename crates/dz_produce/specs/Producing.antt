-- Meaning: what `produce` writes: a catalog is made of the members that the first lines name, and then one after
-- another of each change. A line is bad where it has no form, where it isn't in its turn, or where it brings a fault.
use Rattle.std.specs.Prelude.{ℕ, Bool, ◌==◌, ◌&&◌, List, [], ◌∷◌, ◌++◌, length, codes, decimal, Option, Some, None}
use Rattle.std.specs.Prelude.{is_some, Result, if◌then◌else◌}
use Rattle.hex.specs.Hex.{encode_lower}
use Rattle.dz_script.specs.Answers.{IsRun}
use Rattle.dz_script.specs.Script.{Turn, goes_on, ends, Said, Rules}
use Rattle.dz_script.specs.declared.run.ScriptError.{ScriptError}
use Rattle.dz_name.specs.Words.{Name, Octets}
use Rattle.dz_member.specs.declared.listing.Node.{Node}
use Rattle.dz_message.specs.Frame.{stream}
use Rattle.dz_message.specs.Piece.{written}
use Rattle.dz_outward.specs.Stream.{messages_of}
use Rattle.dz_zone.specs.Version.{Zone}
use Rattle.dz_producer.specs.Amended.{nodes_after, amend_fault, difference_octets}
use Rattle.dz_producer.specs.Faults.{produce_fault}
use Rattle.dz_producer.specs.Produced.{produced}
use Rattle.dz_script.specs.Line.{is_skipped}
use Rattle.dz_produce.specs.Lines.{line_of}
use Rattle.dz_produce.specs.declared.line.Line.{Line}
use Rattle.dz_produce.specs.declared.line.Line.TheVariants.{Catalog, Member, Drop, Change}
use Rattle.dz_produce.specs.declared.saying.ProduceEnd.{ProduceEnd}
use Rattle.dz_produce.specs.declared.saying.ProduceEnd.TheVariants.{Done, BadInput}

-- a catalog that is being made: of the nodes that are added, or of the catalog before without the nodes of the labels
-- that are dropped and with those that are added
pub record Making : Type 0 where
  pub apex : Name
  pub serial : ℕ
  pub before : Option Zone
  pub dropped : List Octets
  pub added : List Node

-- what `produce` goes on with: a catalog, once its line is there
abbrev pub State : Type 0
State = Option Making

-- ---- the catalog that is made
-- a catalog that is being made has a fault, by whether it changes one before
abbrev pub is_faulty_after : Option Zone → Making → Bool
is_faulty_after None m = is_some (produce_fault m.apex m.serial m.added)
is_faulty_after (Some old) m = is_some (amend_fault old m.serial m.dropped m.added)

-- a catalog that is being made has a fault
unfoldable pub is_faulty : Making → Bool
is_faulty m = is_faulty_after m.before m

-- the version of a catalog, by whether it changes one before
abbrev pub version_after : Option Zone → Making → Zone
version_after None m = produced m.apex m.serial m.added
version_after (Some old) m = produced old.apex m.serial (nodes_after old m.dropped m.added)

-- the version of a catalog that is being made
unfoldable pub version_of : Making → Zone
version_of m = version_after m.before m

-- a word, octets in hex, and the end of the line
abbrev pub hex_line : Octets → Octets → Octets
hex_line word octets = word ++ (encode_lower octets ++ (10 ∷ []))

-- the whole catalog with ID 0 (RFC 5936), or the difference that leads to it from the one before (RFC 1995)
abbrev pub text_after : Option Zone → Making → Octets
text_after None m = hex_line (codes "axfr ") (stream (written (messages_of 0 (version_of m))))
text_after (Some old) m = hex_line (codes "ixfr ") (difference_octets old m.serial m.dropped m.added)

-- the line of a catalog that is being made
unfoldable pub text_of : Making → Octets
text_of m = text_after m.before m

-- ---- what the lines make of it
-- a catalog without nodes
abbrev pub begun : Name → ℕ → Making
begun apex serial = record { apex = apex; serial = serial; before = None; dropped = []; added = [] }

-- the catalog with one node more
abbrev pub with_member : Making → Node → Making
with_member m node = record m { added = m.added ++ node ∷ [] }

-- the catalog without the node of a label
abbrev pub without : Making → Octets → Making
without m label = record m { dropped = m.dropped ++ label ∷ [] }

-- a change of the catalog's version that drops and adds nothing yet
abbrev pub changed : Making → ℕ → Making
changed m serial = record { apex = m.apex; serial = serial; before = Some (version_of m); dropped = []; added = [] }

-- ---- turns
-- what is written of a bad line, by its number
abbrev pub bad : ℕ → Octets
bad number = codes "bad " ++ (decimal number ++ (10 ∷ []))

-- a text is written, and the script goes on with a catalog unless that one has a fault: then the line is bad, and the
-- state is unchanged
abbrev pub unless_faulty : State → ℕ → Octets → Making → Turn State ProduceEnd
unless_faulty state number text next =
    if is_faulty next then ends (text ++ bad number) state BadInput else goes_on text (Some next)

-- a bad line ends the script
abbrev pub bad_turn : State → ℕ → Turn State ProduceEnd
bad_turn state number = ends (bad number) state BadInput

-- the first line begins a catalog
abbrev pub first_turn : ℕ → Line → Turn State ProduceEnd
first_turn number (Catalog apex serial) = unless_faulty None number [] (begun apex serial)
first_turn number (Member node) = bad_turn None number
first_turn number (Drop label) = bad_turn None number
first_turn number (Change serial) = bad_turn None number

-- nodes are dropped from a catalog before, and before others are added
abbrev pub may_drop : Making → Bool
may_drop m = is_some m.before && length m.added == 0

-- a node is dropped where one may be
abbrev pub drop_turn : Making → ℕ → Octets → Turn State ProduceEnd
drop_turn m number label = if may_drop m then unless_faulty (Some m) number [] (without m label)
    else bad_turn (Some m) number

-- a change writes the line of the catalog before it, whatever its own fault
abbrev pub next_turn : Making → ℕ → Line → Turn State ProduceEnd
next_turn m number (Catalog apex serial) = bad_turn (Some m) number
next_turn m number (Member node) = unless_faulty (Some m) number [] (with_member m node)
next_turn m number (Drop label) = drop_turn m number label
next_turn m number (Change serial) = unless_faulty (Some m) number (text_of m) (changed m serial)

-- a line of one of the forms
abbrev pub form_turn : State → ℕ → Line → Turn State ProduceEnd
form_turn None number line = first_turn number line
form_turn (Some m) number line = next_turn m number line

-- a line without a form is bad
abbrev pub line_turn : State → ℕ → Option Line → Turn State ProduceEnd
line_turn state number None = bad_turn state number
line_turn state number (Some line) = form_turn state number line

-- a line; a skipped one does nothing
abbrev pub produce_turn : State → ℕ → Octets → Turn State ProduceEnd
produce_turn state number line = if is_skipped line then goes_on [] state else line_turn state number (line_of line)

-- a bad end: its text and its state
abbrev pub bad_said : State → ℕ → Said State ProduceEnd
bad_said state number = record { text = bad number; state = state; ending = BadInput }

-- a line past the limit is bad
abbrev pub produce_too_long : State → ℕ → Said State ProduceEnd
produce_too_long state number = bad_said state number

-- the line of the last catalog; one must be there
abbrev pub produce_finish : State → ℕ → Said State ProduceEnd
produce_finish None number = bad_said None number
produce_finish (Some m) number = record { text = text_of m; state = Some m; ending = Done }

-- the rules of the script
abbrev pub produce_rules : Rules State ProduceEnd
produce_rules = record { turn = produce_turn; too_long = produce_too_long; finish = produce_finish }

-- what a run on an input leaves, by its answer: of the input, and of what was written before and after it
abbrev pub Runs : Octets → Result ProduceEnd ScriptError → Option Octets → Option Octets → Option Octets → Type 0
Runs input result left before after = (last : State) × IsRun produce_rules None input result last left before after

-- a turn of this text, which ends the script so where it does, in this state
abbrev pub turn_from : Octets → Option ProduceEnd → State → Turn State ProduceEnd
turn_from text None state = goes_on text state
turn_from text (Some ending) state = ends text state ending
