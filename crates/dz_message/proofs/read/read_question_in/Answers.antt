use Rattle.std.proofs.Common.{rules}
use Rattle.dz_message.specs.Reading.{question_in}
use Rattle.dz_message.proofs.read.read_question_in.Goals as goal

pub returns-in-Ok-clause-reads : goal.returns-in-Ok-clause-reads
unfolding question_in
returns-in-Ok-clause-reads g c = search rules

pub returns-in-Err-clause-reads : goal.returns-in-Err-clause-reads
unfolding question_in
returns-in-Err-clause-reads g c = search rules
