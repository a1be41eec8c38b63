-- Inner: what the ends keep.
use Rattle.std.specs.Prelude.{◌≡◌, ℕ, ◌-◌, ◌^◌, ◌<◌, Bool, List, [], ◌∷◌, ◌++◌, length, Option, Some, IfSome}
use Rattle.std.specs.Prelude.{option_map}
use Rattle.logbook.specs.Pages.{Named}
use Rattle.dz_history.specs.After.{after}
use Rattle.dz_history.specs.Legal.{IsLegal}
use Rattle.dz_history.specs.declared.entry.Entry.{Entry}
use Rattle.dz_history.specs.declared.entry.Step.{Step}
use Rattle.dz_desk.specs.Seen.{Page, Published, Viewed, Goes}
use Rattle.dz_desk.specs.inner.Ledger.{length_of}

-- a publisher by what it shows and what is staged
abbrev pub published : Page → Option Step → Published
published shown staged =
    record { list = shown.list; staged = option_map (λ step. shown.list ++ step.entry ∷ []) staged; book = shown.book }

-- a step may come next after a list: the list with its entry is legal, and its table is the one after that
pub record IsNext (list : List Entry) (step : Step) : Type 0 where
  pub room : length list < 2 ^ 64 - 1
  pub legal : IsLegal (list ++ step.entry ∷ [])
  pub table : step.table.value ≡ (after (list ++ step.entry ∷ [])).table

-- its seat saw the page shown last, no page is put after it, the word is its book's, and what is staged may come next
abbrev pub IsKept : Option Page → List Page → Named → Page → Option Step → Type 0
IsKept last behind word shown staged =
    (last ≡ Some shown) × (behind ≡ []) × (word ≡ length_of shown.book) × IfSome staged (IsNext shown.list)

-- one page is put after the shown one, and continues it
abbrev pub HasNext : Page → List Page → Type 0
HasNext shown behind = (next : Page) × (behind ≡ next ∷ []) × Goes shown next

-- a reading by the page that it has seen, and the rest
abbrev pub viewed : Page → Bool → ℕ → ℕ → Viewed
viewed seen is_out sights refusals =
    record { list = seen.list; is_out = is_out; sights = sights; refusals = refusals; book = seen.book }
