use Rattle.std.proofs.Common.{rules}
use Rattle.dz_message.specs.Reading.{message_of}
use Rattle.dz_message.proofs.read.read_whole.Goals as goal

pub returns-in-None-clause-reads : goal.returns-in-None-clause-reads
unfolding message_of
returns-in-None-clause-reads g c = search rules

pub returns-in-Some-clause-reads : goal.returns-in-Some-clause-reads
unfolding message_of
returns-in-Some-clause-reads g c = search rules
