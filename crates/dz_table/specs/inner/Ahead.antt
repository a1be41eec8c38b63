-- Inner: slots that a table has.
use Rattle.std.specs.Prelude.{◌≡◌, List, Some}
use Rattle.std.specs.List.{AllByRecursion}
use Rattle.dz_table.specs.Slot.{SlotOf}
use Rattle.dz_table.specs.Table.{slot_of}

-- each is the slot of its zone
abbrev pub AreOf : List SlotOf → List SlotOf → Type 0
AreOf table slots = AllByRecursion (λ slot. slot_of slot.zone table ≡ Some slot) slots
