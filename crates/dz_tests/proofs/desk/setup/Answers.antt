use Rattle.std.proofs.Common.{rules}
use Rattle.dz_history.specs.After.{step}
use Rattle.dz_history.specs.Legal.{IsLegalFrom}
use Rattle.dz_tests.proofs.desk.setup.Goals as goal

pub returns : goal.returns
unfolding IsLegalFrom step
returns c = search rules
