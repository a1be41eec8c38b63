use Rattle.std.proofs.Common.{sym, refl}
use Rattle.dz_fleet.proofs.TakeLemmas.{verdict_is}
use Rattle.dz_fleet.proofs.fleet.Fleet.judge.Goals as goal

pub returns-in-Some-clause-verdict : goal.returns-in-Some-clause-verdict
returns-in-Some-clause-verdict c =
    sym (verdict_is c.args.self.now c.args.job.now c.args.finished.now.octets _ _ _ refl refl (sym c.in-Some.ensures))
