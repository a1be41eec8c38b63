use Rattle.std.proofs.Common.{rules}
use Rattle.dz_header.specs.Writing.{also}
use Rattle.dz_header.proofs.writer.Writer.put.Goals as goal

pub returns-clause-writing : goal.returns-clause-writing
unfolding also
returns-clause-writing c = search rules
