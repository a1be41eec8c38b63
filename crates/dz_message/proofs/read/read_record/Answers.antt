use Rattle.std.proofs.Common.{rules}
use Rattle.dz_message.specs.Reading.{record_at}
use Rattle.dz_message.proofs.read.read_record.Goals as goal

pub returns-in_err-owner-clause-reads : goal.returns-in_err-owner-clause-reads
unfolding record_at
returns-in_err-owner-clause-reads g c = search rules

pub returns-in_err-head-clause-reads : goal.returns-in_err-head-clause-reads
unfolding record_at
returns-in_err-head-clause-reads g c = search rules

pub returns-in_err-read_rdata-clause-reads : goal.returns-in_err-read_rdata-clause-reads
unfolding record_at
returns-in_err-read_rdata-clause-reads g c = search rules

pub returns-clause-reads : goal.returns-clause-reads
unfolding record_at
returns-clause-reads g c = search rules
