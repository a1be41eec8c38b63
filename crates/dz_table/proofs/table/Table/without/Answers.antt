use Rattle.std.proofs.Common.{◌∙◌, ap}
use Rattle.dz_chunks.specs.Map.{without_key}
use Rattle.dz_name.specs.Name.{canonical_order}
use Rattle.dz_table.proofs.CostLemmas.{of_slots}
use Rattle.dz_table.proofs.KeptLemmas.{without_kept, without_slots}
use Rattle.dz_table.proofs.Putting.{without_own, without_others}
use Rattle.dz_table.proofs.table.Table.without.Goals as goal

pub invariant_of-result : goal.invariant_of-result
invariant_of-result g c = without_kept c.self.inside.slots c.in_ok-slots.slots c.args.zone.now c.self.invariant
    (c.in_ok-slots.ensures.map ∙ ap (λ z. without_key canonical_order z c.self.inside.slots) c.of.ensures)

pub returns-clause-value : goal.returns-clause-value
returns-clause-value g c = without_slots c.self.inside.slots c.in_ok-slots.slots
    c.args.self.now c.args.zone.now c.self.invariant c.self.view_is
    (c.in_ok-slots.ensures.map ∙ ap (λ z. without_key canonical_order z c.self.inside.slots) c.of.ensures)

pub returns-clause-own : goal.returns-clause-own
returns-clause-own g c = without_own c.args.self.now _ c.args.zone.now (returns-clause-value g c)

pub returns-clause-others : goal.returns-clause-others
returns-clause-others g c =
    λ other ne. without_others c.args.self.now _ c.args.zone.now other (returns-clause-value g c) ne

pub returns-in_err-slots-clause-comparisons : goal.returns-in_err-slots-clause-comparisons
returns-in_err-slots-clause-comparisons g c =
    of_slots c.self.inside.slots c.args.self.now 9 _ c.self.view_is c.without.ensures.comparisons

pub returns-clause-comparisons : goal.returns-clause-comparisons
returns-clause-comparisons g c =
    of_slots c.self.inside.slots c.args.self.now 9 _ c.self.view_is c.without.ensures.comparisons
