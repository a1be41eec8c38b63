-- Meaning: which entry ended an incarnation of a zone.
use Rattle.std.specs.Prelude.{ℕ, Bool, not, ◌&&◌, List, [], ◌∷◌, Option, Some, None, if◌then◌else◌}
use Rattle.dz_name.specs.Words.{Name}
use Rattle.dz_history.specs.declared.entry.Entry.{Entry}
use Rattle.dz_history.specs.State.{State, nothing, stands}
use Rattle.dz_history.specs.After.{step}

-- an incarnation is current before the entry, and not after it
abbrev pub ends : State → Entry → Name → ℕ → Bool
ends s e zone incarnation = stands s zone incarnation && not (stands (step s e) zone incarnation)

-- the position of the first of these entries after a state that ended an incarnation
unfoldable pub ended_from : State → List Entry → Name → ℕ → Option ℕ
ended_from s [] zone incarnation = None
ended_from s (e ∷ es) zone incarnation =
    if ends s e zone incarnation then Some s.count else ended_from (step s e) es zone incarnation

-- the position of the entry that ended an incarnation
abbrev pub ended : List Entry → Name → ℕ → Option ℕ
ended entries zone incarnation = ended_from nothing entries zone incarnation
