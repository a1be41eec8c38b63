-- How the run of the script ends is how the program ends.
use Rattle.std.proofs.Common.{None, sym, ◌∙◌}
use Rattle.dz_run.specs.Answering.{answer_rules}
use Rattle.dz_run.proofs.AnswerLemmas.{answer_ends}
use Rattle.dz_run.proofs.EndLemmas.{no_memory, done_leaves}
use Rattle.dz_run.proofs.commands.answer.Goals as goal

pub returns-in-Err-clause-ends : goal.returns-in-Err-clause-ends
returns-in-Err-clause-ends g c octets told = no_memory answer_rules None octets _ _

pub returns-in-Ok-clause-ends : goal.returns-in-Ok-clause-ends
returns-in-Ok-clause-ends g c octets told = (
  c.run_answering.result,
  c.run_answering.new.answering,
  c.status_of.ensures,
  rw c.new-answering.ensures at c.run_answering.ensures.ends octets told,
)

pub returns-in-Ok-clause-done : goal.returns-in-Ok-clause-done
returns-in-Ok-clause-done g c octets told is =
    done_leaves answer_rules answer_ends None octets c.run_answering.result c.run_answering.new.answering
    (g.S.Source.left c.run_answering.new.input) _ _
    (rw c.new-answering.ensures at c.run_answering.ensures.ends octets told) (sym c.status_of.ensures ∙ is)
