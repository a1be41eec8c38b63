use Rattle.std.proofs.Common.{rules}
use Rattle.dz_message.specs.Reading.{content_of}
use Rattle.dz_message.proofs.read.read_content.Goals as goal

pub returns-in_err-questions-clause-reads : goal.returns-in_err-questions-clause-reads
unfolding content_of
returns-in_err-questions-clause-reads g c = search rules

pub returns-in_err-answers-clause-reads : goal.returns-in_err-answers-clause-reads
unfolding content_of
returns-in_err-answers-clause-reads g c = search rules

pub returns-in_err-read_end-clause-reads : goal.returns-in_err-read_end-clause-reads
unfolding content_of
returns-in_err-read_end-clause-reads g c = search rules

pub returns-clause-reads : goal.returns-clause-reads
unfolding content_of
returns-clause-reads g c = search rules
