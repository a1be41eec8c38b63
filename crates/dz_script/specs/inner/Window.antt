-- Inner: the part of a window that goes to a line.
use Rattle.std.specs.Prelude.{◌≡◌, ◌<◌, ℕ, List, length}
use Rattle.dz_script.specs.Lines.{IsClosedLine, HasNoNewline}
use Rattle.dz_script.specs.declared.window.Piece.{Piece}
use Rattle.dz_script.specs.declared.window.Piece.TheVariants.{Closed, Open, Full}

-- what a piece of these octets is, where there is room for this many
abbrev pub IsPiece : Piece → ℕ → List ℕ → List ℕ → Type 0
IsPiece Closed room octets piece = IsClosedLine piece
IsPiece Open room octets piece = (piece ≡ octets) × HasNoNewline piece
IsPiece Full room octets piece = (length piece ≡ room) × (room < length octets) × HasNoNewline piece
