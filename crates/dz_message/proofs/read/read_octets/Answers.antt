use Rattle.std.proofs.Common.{rules}
use Rattle.dz_message.specs.Reading.{octets_at}
use Rattle.dz_message.proofs.read.read_octets.Goals as goal

pub returns-then-span-count-clause-reads : goal.returns-then-span-count-clause-reads
unfolding octets_at
returns-then-span-count-clause-reads c = search rules

pub returns-clause-reads : goal.returns-clause-reads
unfolding octets_at
returns-clause-reads c = search rules
