use Rattle.std.proofs.Common.{rules}
use Rattle.dz_provision.specs.inner.Writing.{IsWritten}
use Rattle.dz_provision.proofs.log.log.Goals as goal

pub returns-in-Ok : goal.returns-in-Ok
unfolding IsWritten
returns-in-Ok g c = search rules

pub returns-in-Err : goal.returns-in-Err
unfolding IsWritten
returns-in-Err g c = search rules
