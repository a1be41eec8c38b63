use Rattle.std.proofs.Common.{rules}
use Rattle.dz_message.specs.Reading.{name_within}
use Rattle.dz_message.proofs.read.read_name.Goals as goal

pub returns-in_err-name-clause-reads : goal.returns-in_err-name-clause-reads
unfolding name_within
returns-in_err-name-clause-reads g c = search rules

pub returns-then-span-next-clause-reads : goal.returns-then-span-next-clause-reads
unfolding name_within
returns-then-span-next-clause-reads g c = search rules

pub returns-clause-reads : goal.returns-clause-reads
unfolding name_within
returns-clause-reads g c = search rules
