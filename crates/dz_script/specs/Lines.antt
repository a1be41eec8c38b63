-- Meaning: the lines of an input. A line ends with its newline (octet 10), and the last line may lack one.
use Rattle.std.specs.Prelude.{◌≡◌, ◌≢◌, ◌==◌, ◌+◌, ◌≤◌, ◌<◌, ℕ, List, [], ◌∷◌, ◌++◌, length, Option, option_map}
use Rattle.std.specs.Prelude.{IfSome, if◌then◌else◌}
use Rattle.std.specs.List.{AllByRecursion}
use Rattle.dz_io.specs.Device.{Gives, IsAtEnd}
use Rattle.dz_script.specs.declared.lines.TheConstants.{LIMIT}
use Rattle.dz_script.specs.declared.lines.Next.{Next}
use Rattle.dz_script.specs.declared.lines.Next.TheVariants.{Line, Last, End, TooLong}

-- an octet put before the first line
unfoldable pub onto_first : ℕ → List (List ℕ) → List (List ℕ)
onto_first octet [] = (octet ∷ []) ∷ []
onto_first octet (line ∷ lines) = (octet ∷ line) ∷ lines

-- the lines of these octets, each with its newline
unfoldable pub lines_of : List ℕ → List (List ℕ)
lines_of [] = []
lines_of (octet ∷ octets) = if octet == 10 then (10 ∷ []) ∷ lines_of octets else onto_first octet (lines_of octets)

-- the octets of these lines
unfoldable pub octets_of : List (List ℕ) → List ℕ
octets_of [] = []
octets_of (line ∷ lines) = line ++ octets_of lines

-- a line without its newline
unfoldable pub content : List ℕ → List ℕ
content [] = []
content (octet ∷ octets) = if octet == 10 then [] else octet ∷ content octets

-- no newline is among these octets
abbrev pub HasNoNewline : List ℕ → Type 0
HasNoNewline octets = AllByRecursion (λ octet. octet ≢ 10) octets

-- this is one line, with its newline
pub record IsClosedLine (line : List ℕ) : Type 0 where
  pub front : List ℕ
  pub line_is : line ≡ front ++ 10 ∷ []
  pub unbroken : HasNoNewline front

-- what is ahead of a reader: what its window holds, and what its source has left
abbrev pub ahead : List ℕ → Option (List ℕ) → Option (List ℕ)
ahead window left = option_map (λ rest. window ++ rest) left

-- a line with its newline was read, within the limit
pub record TakesLine (used : ℕ) (line : List ℕ) (before after : Option (List ℕ)) : Type 0 where
  pub moved : Gives line before after
  pub closed : IsClosedLine line
  pub fits : used + length line ≤ LIMIT

-- the last line was read, which lacks a newline, within the limit
pub record TakesLast (used : ℕ) (line : List ℕ) (before after : Option (List ℕ)) : Type 0 where
  pub moved : Gives line before after
  pub unbroken : HasNoNewline line
  pub some : 0 < length line
  pub end : IsAtEnd after
  pub fits : used + length line ≤ LIMIT

-- there is no further line
pub record TakesNone (line : List ℕ) (before after : Option (List ℕ)) : Type 0 where
  pub empty : line ≡ []
  pub moved : Gives line before after
  pub end : IsAtEnd after

-- a line was read up to the limit, and goes on past it
pub record TakesTooMuch (used : ℕ) (line : List ℕ) (before after : Option (List ℕ)) : Type 0 where
  pub moved : Gives line before after
  pub unbroken : HasNoNewline line
  pub full : used + length line ≡ LIMIT
  pub more : IfSome after (λ rest. 0 < length rest)

-- what reading a line took, by its answer
abbrev pub Takes : Next → ℕ → List ℕ → Option (List ℕ) → Option (List ℕ) → Type 0
Takes Line used line before after = TakesLine used line before after
Takes Last used line before after = TakesLast used line before after
Takes End used line before after = TakesNone line before after
Takes TooLong used line before after = TakesTooMuch used line before after

-- reading a line stopped within it: this much of it was read
pub record StopsWithin (used : ℕ) (line : List ℕ) (before after : Option (List ℕ)) : Type 0 where
  pub moved : Gives line before after
  pub unbroken : HasNoNewline line
  pub fits : used + length line ≤ LIMIT
