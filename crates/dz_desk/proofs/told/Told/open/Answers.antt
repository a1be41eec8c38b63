use Rattle.std.proofs.Common.{rules}
use Rattle.dz_history.specs.Legal.{IsLegalFrom}
use Rattle.dz_desk.proofs.told.Told.open.Goals as goal

pub invariant_of-result : goal.invariant_of-result
unfolding IsLegalFrom
invariant_of-result c = search rules

pub returns-clause-legal : goal.returns-clause-legal
unfolding IsLegalFrom
returns-clause-legal c = search rules
