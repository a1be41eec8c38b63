-- Meaning: the whole text that a script writes to an input, and how it ends.
use Rattle.std.specs.Prelude.{◌≡◌, ◌+◌, ℕ, List, [], ◌∷◌, ◌++◌, length, nat_lt, Option, Some, None, IsSome}
use Rattle.std.specs.Prelude.{if◌then◌else◌}
use Rattle.std.specs.List.{AllByRecursion}
use Rattle.dz_script.specs.Lines.{lines_of, octets_of, content, HasNoNewline, IsClosedLine}
use Rattle.dz_script.specs.Script.{Turn, goes_on, ends, Said, Rules, behind}
use Rattle.dz_script.specs.declared.lines.TheConstants.{LIMIT}

-- how far a script has come
pub record Place (S : Type 0) : Type 0 where
  pub state : S
  -- the number of the next line
  pub number : ℕ
  -- how many octets the lines before it have
  pub used : ℕ
  -- what was written
  pub written : List ℕ

-- the place before the first line
unfoldable pub beginning : {S : Type 0} → S → Place S
beginning state = record { state = state; number = 1; used = 0; written = [] }

-- what a line makes of a place: a further place, or the whole text, the last state and the ending
pub data Step (S E : Type 0) : Type 0 where
  further : Place S → Step S E
  over : Said S E → Step S E

-- the place after a line of this many octets, or the ending
unfoldable pub after_turn : {S E : Type 0} → Place S → ℕ → Turn S E → Step S E
after_turn place octets (goes_on text state) = further
    (record { state = state; number = place.number + 1; used = place.used + octets; written = place.written ++ text })
after_turn place octets (ends text state ending) =
    over (record { text = place.written ++ text; state = state; ending = ending })

-- what a line makes of a place
unfoldable pub step_at : {S E : Type 0} → Rules S E → Place S → List ℕ → Step S E
step_at rules place line =
    if nat_lt LIMIT (place.used + length line)
    then over (behind place.written (rules.too_long place.state place.number))
    else after_turn place (length line) (rules.turn place.state place.number (content line))

-- the whole text, the last state and the ending, from a place on, of these lines
unfoldable pub said_from : {S E : Type 0} → Rules S E → Place S → List (List ℕ) → Said S E
said_from rules place [] = behind place.written (rules.finish place.state place.number)
said_from rules place (line ∷ lines) =
    elim (step_at rules place line) [ further next ↦ said_from rules next lines | over said ↦ said ]

-- the whole text that a script writes to an input, its last state, and how it ends
unfoldable pub said_of : {S E : Type 0} → Rules S E → S → List ℕ → Said S E
said_of rules state input = said_from rules (beginning state) (lines_of input)

-- the place after these lines, where all go on
unfoldable pub place_after : {S E : Type 0} → Rules S E → Place S → List (List ℕ) → Option (Place S)
place_after rules place [] = Some place
place_after rules place (line ∷ lines) =
    elim (step_at rules place line) [ further next ↦ place_after rules next lines | over said ↦ None ]

-- no line of the input ends the script
abbrev pub GoesToTheEnd : {S E : Type 0} → Rules S E → S → List ℕ → Type 0
GoesToTheEnd rules state input = IsSome (place_after rules (beginning state) (lines_of input))

-- all that is written is a prefix of this text
abbrev pub IsPrefix : List ℕ → List ℕ → Type 0
IsPrefix written text = (more : List ℕ) × (text ≡ written ++ more)

-- reading stopped within a line: whole lines were read before it, and what was written and the state are theirs
pub record StopsIn {S E : Type 0} (rules : Rules S E) (start : S) (input unread : List ℕ) (state : S)
    (written : List ℕ) : Type 0 where
  pub whole : List (List ℕ)
  pub part : List ℕ
  pub closed : AllByRecursion IsClosedLine whole
  pub unbroken : HasNoNewline part
  pub input_is : input ≡ octets_of whole ++ (part ++ unread)
  pub place : Place S
  pub place_is : place_after rules (beginning start) whole ≡ Some place
  pub written_is : place.written ≡ written
  pub state_is : place.state ≡ state
