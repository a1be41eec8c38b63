-- Inner: the slots after a listing, change by change.
use Rattle.std.specs.Prelude.{◌≡◌, List, fold}
use Rattle.dz_name.specs.Words.{Name}
use Rattle.dz_member.specs.declared.listing.Node.{Node}
use Rattle.dz_member.specs.declared.change.Change.{Change}
use Rattle.dz_member.specs.declared.change.What.{What}
use Rattle.dz_member.specs.declared.change.What.TheVariants.{Added, Removed, Reset, Moved, MovedReset, Clash}
use Rattle.dz_member.specs.declared.change.What.TheVariants.{Regrouped}
use Rattle.dz_member.specs.Fold.{FoldOf}
use Rattle.dz_member.specs.Process.{process, changes, EachZone}
use Rattle.dz_table.specs.Slot.{SlotOf}
use Rattle.dz_table.specs.Table.{put, without}
use Rattle.dz_history.specs.State.{State}
use Rattle.dz_history.specs.After.{fresh}

-- the slots after what happened to a zone: it begins with a fresh slot, or its slot goes, or all stay
abbrev pub after_what : List SlotOf → Name → What → List SlotOf
after_what slots zone (Added catalog) = put slots (fresh zone)
after_what slots zone (Reset catalog) = put slots (fresh zone)
after_what slots zone (MovedReset from to) = put slots (fresh zone)
after_what slots zone (Removed catalog) = without slots zone
after_what slots zone (Moved from to) = slots
after_what slots zone (Clash holder) = slots
after_what slots zone (Regrouped catalog) = slots

-- the slots after one change
unfoldable pub after_change : List SlotOf → Change → List SlotOf
after_change slots change = after_what slots change.zone change.what

-- the fold and the changes are those after the listing of a catalog
pub record AreListed (s : State) (after : FoldOf) (cs : List Change) : Type 0 where
  pub catalog : Name
  pub nodes : List Node
  pub fold : after ≡ process s.fold catalog nodes s.count
  pub changes : cs ≡ changes s.fold catalog nodes s.count
  pub each : EachZone s.fold catalog nodes s.count after cs
