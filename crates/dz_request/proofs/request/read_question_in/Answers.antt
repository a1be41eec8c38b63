use Rattle.std.proofs.Common.{rules}
use Rattle.dz_request.specs.Request.{question_in}
use Rattle.dz_request.proofs.request.read_question_in.Goals as goal

pub returns-in-Err-clause-reads : goal.returns-in-Err-clause-reads
unfolding question_in
returns-in-Err-clause-reads c = search rules

pub returns-then-end-wire-clause-reads : goal.returns-then-end-wire-clause-reads
unfolding question_in
returns-then-end-wire-clause-reads c = search rules

pub returns-else-end-wire-clause-reads : goal.returns-else-end-wire-clause-reads
unfolding question_in
returns-else-end-wire-clause-reads c = search rules
