-- Inner: the published list is the log of a book, whose first word is its length.
use Rattle.std.specs.Prelude.{ℕ, ◌≡◌, ◌==◌, true, List, [], ◌∷◌, ◌++◌, length}
use Rattle.logbook.specs.Pages.{Cell, Step, View, Book, Named}
use Rattle.dz_history.specs.declared.entry.Entry.{Entry}

-- a book has two words; the second stays at 0
abbrev pub IsCounted : List Cell → List Entry → Type 0
IsCounted cells log = cells ≡ (length log, true) ∷ (0, true) ∷ []

-- the first word of a book
abbrev pub length_of : Book → Named
length_of book = record { tracked = true; key = 0; book = book }

-- where the length was as expected, the entry is appended to all that had been seen
abbrev pub Enters : Step Entry → View Entry ℕ → ℕ → View Entry ℕ → Type 0
Enters s before found after = (found == s.old) ≡ true → after.0 ≡ before.0 ++ s.ask ∷ []
