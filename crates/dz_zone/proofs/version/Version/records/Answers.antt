use Rattle.dz_zone.proofs.WithinLemmas.{owners_within}
use Rattle.dz_zone.proofs.version.Version.records.Goals as goal

pub returns-clause-within : goal.returns-clause-within
returns-clause-within c = owners_within c.args.self.now (rw c.self.view_is at c.self.invariant.version.valid)
