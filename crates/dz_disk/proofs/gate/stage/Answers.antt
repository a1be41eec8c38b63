use Rattle.std.proofs.Common.{rules}
use Rattle.dz_disk.specs.RecordLog.{body}
use Rattle.dz_disk.proofs.gate.stage.Goals as goal

pub returns : goal.returns
unfolding body
returns c = search rules
