-- Meaning: what is current has not ended.
use Rattle.std.specs.Prelude.{◌≡◌, ℕ, true, List, None}
use Rattle.dz_name.specs.Words.{Name}
use Rattle.dz_history.specs.declared.entry.Entry.{Entry}
use Rattle.dz_history.specs.State.{stands}
use Rattle.dz_history.specs.After.{after}
use Rattle.dz_history.specs.Ended.{ended}

-- no entry of the list ended an incarnation that is current after it
abbrev pub IsWhole : List Entry → Type 0
IsWhole entries = (zone : Name) (incarnation : ℕ) → stands (after entries) zone incarnation ≡ true
    → ended entries zone incarnation ≡ None
