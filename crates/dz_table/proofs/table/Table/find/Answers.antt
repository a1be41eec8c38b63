use Rattle.std.proofs.Common.{◌∙◌, ap}
use Rattle.dz_table.proofs.CostLemmas.{of_slots}
use Rattle.std.specs.FinMap.{find}
use Rattle.dz_name.specs.Name.{canonical_order}
use Rattle.dz_table.proofs.KeptLemmas.{found_kept}
use Rattle.dz_table.proofs.table.Table.find.Goals as goal

pub returns-clause-slot : goal.returns-clause-slot
returns-clause-slot g c = c.get.ensures.value ∙ (ap (λ z. find canonical_order z c.self.inside.slots) c.of.ensures
    ∙ found_kept c.self.inside.slots c.args.self.now c.args.zone.now c.self.invariant c.self.view_is)

pub returns-clause-cost : goal.returns-clause-cost
returns-clause-cost g c = of_slots c.self.inside.slots c.args.self.now 9 _ c.self.view_is c.get.ensures.cost
