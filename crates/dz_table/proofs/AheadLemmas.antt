-- Slots that are of a table, one after the other.
use Rattle.std.proofs.Common.{◌≡◌, true, false, List, [], ◌∷◌, ◌++◌, refl, sym, ◌∙◌, ap, Some, None}
use Rattle.std.specs.Prelude.{Option, MatchOption}
use Rattle.std.specs.Option.{option_map, option_to_list}
use Rattle.std.specs.List.{AllByRecursion}
use Rattle.std.specs.List.Sorted.{IsStrictlySortedBy}
use Rattle.std.specs.Ordering.{is_eq}
use Rattle.std.specs.declared.cmp.Ordering.TheVariants.{Less}
use Rattle.dz_name.specs.Name.{same_name}
use Rattle.dz_name.specs.Order.{same_decides, same_ties}
use Rattle.dz_table.specs.Slot.{SlotOf}
use Rattle.dz_table.specs.Table.{slot_order, slot_of, IsTable}
use Rattle.dz_table.specs.inner.Ahead.{AreOf}

own : (s : SlotOf) (ss : List SlotOf) → slot_of s.zone (s ∷ ss) ≡ Some s
own s ss = let itself : same_name s.zone s.zone ≡ true = (same_decides s.zone s.zone).1 refl in rw itself refl

of_more : (s : SlotOf) (all ts : List SlotOf) → AllByRecursion (λ t. slot_order s t ≡ Less) ts → AreOf all ts
    → AreOf (s ∷ all) ts
of_more s all [] lt h = tt
of_more s all (t ∷ ts) lt h =
    let apart : same_name s.zone t.zone ≡ false = same_ties s.zone t.zone ∙ ap is_eq lt.0 in
    (rw apart h.0, of_more s all ts lt.1 h.1)

-- the slots of a table are of it
pub of_itself : (slots : List SlotOf) → IsTable slots → AreOf slots slots
unfolding IsStrictlySortedBy
of_itself [] up = tt
of_itself (s ∷ ss) up = (own s ss, of_more s ss ss up.0 (of_itself ss up.1))

-- what an iterator gave, before what is left
pub given : {X B : Type 0} (view : X → B) (o : Option X) (s t : List B)
    → MatchOption o ((s ≡ []) × (t ≡ [])) (λ x. s ≡ view x ∷ t) → option_to_list (option_map view o) ++ t ≡ s
given view None s t h = h.1 ∙ sym h.0
given view (Some x) s t h = sym h
