-- How much of a line was read, from one piece to the next.
use Rattle.std.proofs.Common.{◌≡◌, ◌≤◌, ◌+◌, ℕ, List, [], ◌∷◌, ◌++◌, length, Option, Some, None, refl, append_assoc}
use Rattle.std.proofs.Common.{length-append, arith}
use Rattle.dz_io.specs.Device.{Gives}
use Rattle.dz_script.specs.Lines.{HasNoNewline, IsClosedLine, ahead, TakesLine, StopsWithin}
use Rattle.dz_script.specs.inner.Window.{IsPiece}
use Rattle.dz_script.specs.declared.window.Piece.TheVariants.{Closed, Open}
use Rattle.dz_script.specs.declared.lines.TheConstants.{LIMIT}

-- neither of two lists has a newline
pub no_newline-append : (front more : List ℕ) → HasNoNewline front → HasNoNewline more → HasNoNewline (front ++ more)
no_newline-append [] more before behind = behind
no_newline-append (octet ∷ front) more before behind = (before.0, no_newline-append front more before.1 behind)

-- a piece moved from the window to the line
gives_on : (line piece window : List ℕ) (before left : Option (List ℕ))
    → Gives line before (ahead (piece ++ window) left) → Gives (line ++ piece) before (ahead window left)
gives_on line piece window before None moved = moved
gives_on line piece window before (Some rest) moved = rw (moved, append_assoc, append_assoc) refl

pub on_piece : (used : ℕ) (line piece held window : List ℕ) (before left : Option (List ℕ))
    → StopsWithin used line before (ahead held left) → held ≡ piece ++ window → HasNoNewline piece
    → used + length line + length piece ≤ LIMIT → StopsWithin used (line ++ piece) before (ahead window left)
on_piece used line piece held window before left so_far split unbroken fits = record {
  moved = gives_on line piece window before left (rw split at so_far.moved);
  unbroken = no_newline-append line piece so_far.unbroken unbroken;
  fits = rw length-append (omega arith);
}

closed-append : (line piece : List ℕ) → HasNoNewline line → IsClosedLine piece → IsClosedLine (line ++ piece)
closed-append line piece before closed = record {
  front = line ++ closed.front;
  line_is = rw (closed.line_is, append_assoc) refl;
  unbroken = no_newline-append line closed.front before closed.unbroken;
}

pub on_newline : (used : ℕ) (line piece held window : List ℕ) (before left : Option (List ℕ))
    → StopsWithin used line before (ahead held left) → held ≡ piece ++ window → IsClosedLine piece
    → used + length line + length piece ≤ LIMIT → TakesLine used (line ++ piece) before (ahead window left)
on_newline used line piece held window before left so_far split closed fits = record {
  moved = gives_on line piece window before left (rw split at so_far.moved);
  closed = closed-append line piece so_far.unbroken closed;
  fits = rw length-append (omega arith);
}

-- the piece that was moved ends the line
pub closes : (used room : ℕ) (line now held window : List ℕ) (before was left : Option (List ℕ))
    → StopsWithin used line before was → ahead held left ≡ was → (piece : List ℕ) × (now ≡ line ++ piece)
    × (held ≡ piece ++ window) × (length piece ≤ room) × IsPiece Closed room held piece
    → used + length line + room ≤ LIMIT → TakesLine used now before (ahead window left)
closes used room line now held window before was left so_far same moved fits =
    rw moved.1 (on_newline used line moved.0 held window before left (rw (← same) at so_far) moved.2 moved.4
    (omega (arith, moved.3)))

-- the line goes on after the piece that was moved
pub goes_on : (used room : ℕ) (line now held window : List ℕ) (before was left : Option (List ℕ))
    → StopsWithin used line before was → ahead held left ≡ was → (piece : List ℕ) × (now ≡ line ++ piece)
    × (held ≡ piece ++ window) × (length piece ≤ room) × IsPiece Open room held piece
    → used + length line + room ≤ LIMIT → StopsWithin used now before (ahead window left)
goes_on used room line now held window before was left so_far same moved fits =
    rw moved.1 (on_piece used line moved.0 held window before left (rw (← same) at so_far) moved.2 moved.4.1
    (omega (arith, moved.3)))
