use Rattle.std.proofs.Common.{◌∙◌}
use Rattle.dz_table.proofs.KeptLemmas.{sorted_entries, kept_slots, slots_are}
use Rattle.dz_table.proofs.table.Table.from_shared.Goals as goal

pub from_entries-requires : goal.from_entries-requires
from_entries-requires c = rw c.in_ok-entries.ensures (sorted_entries c.args.slots.items c.requires)

pub invariant_of-result : goal.invariant_of-result
invariant_of-result c =
    kept_slots c.args.slots.items c.in_ok-slots.slots c.requires (c.in_ok-slots.ensures ∙ c.in_ok-entries.ensures)

pub returns : goal.returns
returns c = slots_are c.args.slots.items c.in_ok-slots.slots (c.in_ok-slots.ensures ∙ c.in_ok-entries.ensures)
