-- Inner: the slots of a table in a map, each at its zone.
use Rattle.std.specs.Prelude.{◌≡◌, List, map}
use Rattle.dz_name.specs.Words.{Name}
use Rattle.dz_table.specs.Slot.{SlotOf}
use Rattle.dz_table.specs.Table.{IsTable}

-- slots, each preceded by its zone
abbrev pub entries_of : List SlotOf → List (Name × SlotOf)
entries_of slots = map (λ slot. (slot.zone, slot)) slots

-- the slots of entries
abbrev pub slots_of : List (Name × SlotOf) → List SlotOf
slots_of entries = map (λ entry. entry.1) entries

-- the entries are those of a table: each slot is at its own zone, and they are in order
pub record IsKept (entries : List (Name × SlotOf)) : Type 0 where
  pub keyed : entries ≡ entries_of (slots_of entries)
  pub order : IsTable (slots_of entries)
