use Rattle.std.proofs.Common.{rules}
use Rattle.dz_message.specs.Reading.{head_at}
use Rattle.dz_message.proofs.read.read_head_at.Goals as goal

pub returns-in-None-clause-reads : goal.returns-in-None-clause-reads
unfolding head_at
returns-in-None-clause-reads c = search rules

pub returns-in-Some-clause-reads : goal.returns-in-Some-clause-reads
unfolding head_at
returns-in-Some-clause-reads c = search rules
