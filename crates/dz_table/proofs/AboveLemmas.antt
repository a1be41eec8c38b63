-- The zone above a name.
use Rattle.std.proofs.Common.{◌≡◌, ◌<◌, List, [], ◌∷◌, length, drop, refl, ap, arith, None}
use Rattle.dz_name.specs.Words.{Name}
use Rattle.dz_name.specs.Name.{IsWithin}
use Rattle.dz_table.specs.Slot.{SlotOf}
use Rattle.dz_table.specs.Table.{closest, closest_above}

pub above_is : (slots : List SlotOf) (name : Name) → 0 < length name
    → closest slots (drop 1 name) ≡ closest_above slots name
above_is slots [] some = absurd (omega arith)
above_is slots (label ∷ labels) some = refl

pub above_none : (slots : List SlotOf) (name : Name) → length name ≡ 0 → None ≡ closest_above slots name
above_none slots [] none = refl
above_none slots (label ∷ labels) none = absurd (omega arith)

pub within_above : (name zone : Name) → 0 < length name → IsWithin (drop 1 name) zone → IsWithin name zone
within_above [] zone some w = absurd (omega arith)
within_above (label ∷ labels) zone some w = (label ∷ w.0, ap (λ ls. label ∷ ls) w.1)
