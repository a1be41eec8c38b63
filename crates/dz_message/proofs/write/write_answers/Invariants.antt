use Rattle.std.proofs.Common.{◌≡◌, ◌++◌, ◌<◌, ℕ, drop, get_or}
use Rattle.std.specs.List.{flat_map}
use Rattle.dz_record.specs.Record.{Record, IsRecord, record_octets}
use Rattle.dz_message.proofs.write.write_answers.Given as goal

abbrev pub invariant-answers : goal.invariant-answers
invariant-answers l = record {
  octets : l.out.items ++ flat_map record_octets (drop l.answer-index l.answers)
      ≡ l.fn.out.items ++ flat_map record_octets l.answers;
  held : (k : ℕ) (d : Record) → k < l.answer-index → IsRecord (get_or l.answers k d);
}
