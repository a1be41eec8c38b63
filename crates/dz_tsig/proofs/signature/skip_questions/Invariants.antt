use Rattle.std.proofs.Common.{◌≡◌, ◌-◌, ◌≤◌, length}
use Rattle.dz_tsig.specs.Signature.{after_questions}
use Rattle.dz_tsig.proofs.signature.skip_questions.Given as goal

abbrev pub invariant-questions : goal.invariant-questions
invariant-questions l = record {
  value : after_questions (l.count - l.counter) l.rest ≡ after_questions l.count l.octets;
  within : length l.rest ≤ length l.octets;
}
