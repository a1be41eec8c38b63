use Rattle.std.proofs.Common.{◌≡◌, ◌-◌, ◌+◌, ◌*◌, ◌≤◌, length}
use Rattle.dz_message.specs.Looks.{looks_of_answers}
use Rattle.dz_message.specs.Reading.{many, record_at}
use Rattle.dz_message.proofs.ManyLemmas.{after}
use Rattle.dz_message.proofs.read.read_answers.Given as goal

abbrev pub invariant-answers : goal.invariant-answers
invariant-answers g l = record {
  within : l.offset ≤ length l.message;
  reads : after l.answers.items (many (record_at l.message) (l.count - l.counter) l.offset)
      ≡ many (record_at l.message) l.count l.at;
  least : l.fn.steps + looks_of_answers l.answers.items ≤ l.steps;
  passed : l.steps + 256 * l.at ≤ l.fn.steps + 256 * l.offset;
}
