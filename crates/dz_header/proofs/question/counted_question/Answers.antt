use Rattle.std.proofs.Common.{rules}
use Rattle.dz_header.specs.Question.{question_at}
use Rattle.dz_header.proofs.question.counted_question.Goals as goal

pub returns-in-Ok-clause-reads : goal.returns-in-Ok-clause-reads
unfolding question_at
returns-in-Ok-clause-reads g c = search rules

pub returns-in-Err-clause-reads : goal.returns-in-Err-clause-reads
unfolding question_at
returns-in-Err-clause-reads g c = search rules
