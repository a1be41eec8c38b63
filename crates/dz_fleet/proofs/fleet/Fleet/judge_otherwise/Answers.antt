use Rattle.std.proofs.Common.{sym, ◌∙◌}
use Rattle.dz_fleet.proofs.TakeLemmas.{verdict_unsigned}
use Rattle.dz_fleet.proofs.fleet.Fleet.judge_otherwise.Goals as goal

pub returns-in-Some-clause-verdict : goal.returns-in-Some-clause-verdict
returns-in-Some-clause-verdict c =
    let comes = rw c.requires.transfer at c.requires.comes in
    let fault = sym c.in_ok-fault.ensures ∙ c.in-Some.is in
    sym (verdict_unsigned c.args.self.now c.args.job.now c.args.finished.now.octets c.in-Some.fault comes fault
    c.requires.standing)
