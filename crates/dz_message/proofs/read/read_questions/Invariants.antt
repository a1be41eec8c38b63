use Rattle.std.proofs.Common.{◌≡◌, ◌-◌, ◌+◌, ◌*◌, ◌≤◌, length}
use Rattle.dz_message.specs.Looks.{looks_of_questions}
use Rattle.dz_message.specs.Reading.{many, question_in}
use Rattle.dz_message.proofs.ManyLemmas.{after}
use Rattle.dz_message.proofs.read.read_questions.Given as goal

abbrev pub invariant-questions : goal.invariant-questions
invariant-questions g l = record {
  within : l.offset ≤ length l.message;
  reads : after l.questions.items (many (question_in l.message) (l.count - l.counter) l.offset)
      ≡ many (question_in l.message) l.count l.at;
  least : l.fn.steps + looks_of_questions l.questions.items ≤ l.steps;
  passed : l.steps + 256 * l.at ≤ l.fn.steps + 256 * l.offset;
}
