use Rattle.dz_take.proofs.TakingLemmas.{nothing_read}
use Rattle.dz_take.proofs.taking.Taking.start.Goals as goal

pub invariant_of-result : goal.invariant_of-result
invariant_of-result c = nothing_read c.new.result c.new-2.result.items c.new-2.ensures.items
