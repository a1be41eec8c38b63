use Rattle.std.proofs.Common.{rules}
use Rattle.dz_restore.specs.Restoring.{sent_with}
use Rattle.dz_restore.proofs.returned.stream_of.Goals as goal

pub returns : goal.returns
unfolding sent_with
returns c = search rules
