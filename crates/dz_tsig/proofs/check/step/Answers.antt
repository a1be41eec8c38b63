use Rattle.std.proofs.Common.{rules}
use Rattle.dz_tsig.specs.Checking.{step}
use Rattle.dz_tsig.proofs.check.step.Goals as goal

pub returns-in-Absent : goal.returns-in-Absent
unfolding step
returns-in-Absent c = search rules

pub returns-in-Malformed : goal.returns-in-Malformed
unfolding step
returns-in-Malformed c = search rules

pub returns-in-Present : goal.returns-in-Present
unfolding step
returns-in-Present c = search rules
