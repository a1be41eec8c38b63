-- Meaning: what contracts see of a publisher, of a reading, of a note and of a sight.
use Rattle.std.specs.Prelude.{◌≡◌, ℕ, ◌+◌, ◌-◌, ◌^◌, min, Bool, true, false, List, [], Option}
use mathlib.Core.List.{IsPrefix}
pub use Rattle.logbook.specs.Pages.{Book}
use Rattle.dz_history.specs.declared.entry.Entry.{Entry}

-- a note or a sight: a list of entries, and the book of the publisher whose list it was; each publisher has its own
pub record Page : Type 0 where
  pub list : List Entry
  pub book : Book

-- a page of this list and this book
abbrev pub page : List Entry → Book → Page
page list book = record { list = list; book = book }

-- a publisher: the published list, the list that is staged to be published next, and its book
pub record Published : Type 0 where
  pub list : List Entry
  pub staged : Option (List Entry)
  pub book : Book

-- a reading: the list that it has seen, whether a sight of it is out, how many looks showed a sight and how many were
-- refused, and the book of the publisher that it was opened with
pub record Viewed : Type 0 where
  pub list : List Entry
  pub is_out : Bool
  pub sights : ℕ
  pub refusals : ℕ
  pub book : Book

-- a reading of this book that has seen no entry
abbrev pub IsFresh : Book → Viewed → Type 0
IsFresh book r = (r.list ≡ []) × (r.is_out ≡ false) × (r.sights ≡ 0) × (r.refusals ≡ 0) × (r.book ≡ book)

-- a reading of this book, of which no sight is out
abbrev pub IsAtRest : Book → Viewed → Type 0
IsAtRest book r = (r.is_out ≡ false) × (r.book ≡ book)

-- a page is continued by another: of the same book, with a list that begins with its own
abbrev pub Goes : Page → Page → Type 0
Goes x y = IsPrefix x.list y.list × (y.book ≡ x.book)

-- a count one higher; it stays at 2^64 - 1
abbrev pub raised : ℕ → ℕ
raised n = min (n + 1) (2 ^ 64 - 1)

-- a reading after a look that showed a list
abbrev pub shown : Viewed → List Entry → Viewed
shown r list = record r { list = list; is_out = true; sights = raised r.sights }

-- a reading after a look that was refused
abbrev pub refused : Viewed → Viewed
refused r = record r { refusals = raised r.refusals }
