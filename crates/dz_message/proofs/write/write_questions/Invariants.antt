use Rattle.std.proofs.Common.{◌≡◌, ◌++◌, ◌<◌, ℕ, drop, get_or}
use Rattle.std.specs.List.{flat_map}
use Rattle.dz_header.specs.declared.question.Question.{Question}
use Rattle.dz_message.specs.Writing.{question_octets, IsAsking}
use Rattle.dz_message.proofs.write.write_questions.Given as goal

abbrev pub invariant-questions : goal.invariant-questions
invariant-questions l = record {
  octets : l.out.items ++ flat_map question_octets (drop l.question-index l.questions)
      ≡ l.fn.out.items ++ flat_map question_octets l.questions;
  held : (k : ℕ) (d : Question) → k < l.question-index → IsAsking (get_or l.questions k d);
}
