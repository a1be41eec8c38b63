use Rattle.std.proofs.Common.{refl}
use Rattle.dz_table.proofs.CostLemmas.{of_slots}
use Rattle.dz_table.proofs.KeptLemmas.{put_kept, put_slots}
use Rattle.dz_table.proofs.Putting.{put_own, put_others}
use Rattle.dz_table.proofs.table.Table.with.Goals as goal

pub invariant_of-result : goal.invariant_of-result
invariant_of-result g c = put_kept c.self.inside.slots c.in_ok-slots.slots c.args.slot c.args.slot.zone
    c.self.invariant refl c.in_ok-slots.ensures.map

pub returns-clause-value : goal.returns-clause-value
returns-clause-value g c = put_slots c.self.inside.slots c.in_ok-slots.slots c.args.self.now c.args.slot
    c.args.slot.zone c.self.invariant c.self.view_is refl c.in_ok-slots.ensures.map

pub returns-clause-own : goal.returns-clause-own
returns-clause-own g c = put_own c.args.self.now _ c.args.slot (returns-clause-value g c)

pub returns-clause-others : goal.returns-clause-others
returns-clause-others g c = λ zone ne. put_others c.args.self.now _ c.args.slot zone (returns-clause-value g c) ne

pub returns-in_err-slots-clause-comparisons : goal.returns-in_err-slots-clause-comparisons
returns-in_err-slots-clause-comparisons g c =
    of_slots c.self.inside.slots c.args.self.now 9 _ c.self.view_is c.with.ensures.comparisons

pub returns-clause-comparisons : goal.returns-clause-comparisons
returns-clause-comparisons g c =
    of_slots c.self.inside.slots c.args.self.now 9 _ c.self.view_is c.with.ensures.comparisons
