use Rattle.dz_ixfr.proofs.FedLemmas.{finished}
use Rattle.dz_ixfr.proofs.differences.Differences.finish.Goals as goal

pub returns-clause-records : goal.returns-clause-records
returns-clause-records c = finished c.self.invariant c.args.self c.self.view_is c.requires
