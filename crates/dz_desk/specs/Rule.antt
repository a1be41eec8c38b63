-- Meaning: the rule of what is published and what has been seen, which each atomic step keeps.
use Rattle.std.specs.Prelude.{⊤, ◌≡◌, ℕ, List, Option, None, Some}
use mathlib.Core.Option.{some}
use lib.ListN.{get_elem?}
use Rattle.dz_desk.specs.Seen.{Page, Goes}

-- what a seat saw last, if it saw anything, is continued by this page
abbrev pub WasSeen : Option Page → Page → Type 0
WasSeen None y = ⊤
WasSeen (Some x) y = Goes x y

-- what each seat saw last is continued by the published page
abbrev pub Keeps : Page → List (Option Page) → Type 0
Keeps published seats = (n : ℕ) (seen : Option Page) → get_elem? seats n ≡ some seen → WasSeen seen published

-- a step that shows a page to a seat: it continues what the seat saw before, and is what it saw last from then on
abbrev pub Sees : Option Page → Page → Page → Option Page → Type 0
Sees before published shown after = WasSeen before shown × (after ≡ Some shown)
