use Rattle.std.proofs.Common.{sym}
use Rattle.dz_fleet.proofs.TakeLemmas.{verdict_refused}
use Rattle.dz_fleet.proofs.fleet.Fleet.judge_standing.Goals as goal

pub returns-in-Refused-clause-verdict : goal.returns-in-Refused-clause-verdict
returns-in-Refused-clause-verdict c =
    let came = rw (c.in-Refused.is, c.requires.transfer) at c.outcome.ensures in
    sym (verdict_refused c.args.self.now c.args.job.now c.args.finished.now.octets c.in-Refused.fault
    (sym came) c.requires.standing)
