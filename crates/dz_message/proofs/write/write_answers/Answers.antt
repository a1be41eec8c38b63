use Rattle.dz_record.specs.Record.{record_octets, IsRecord}
use Rattle.dz_message.proofs.WritingLemmas.{one_written}
use Rattle.dz_message.proofs.WrittenLemmas.{held_next}
use Rattle.dz_message.proofs.write.write_answers.Goals as goal

pub answers-preserved : goal.answers-preserved
answers-preserved c = record {
  octets = one_written record_octets c.args.answers.now c.answers.answer-index c.answer-item.result _
      c.answers.out.items c.write_answer.new.out.items c.answers-test.true c.answer-item.is c.answers.invariant.octets
      c.in_ok-write_answer.ensures.octets;
  held = held_next IsRecord c.args.answers.now c.answers.answer-index c.answer-item.result c.answers-test.true
      c.answer-item.is c.in_ok-write_answer.ensures.held c.answers.invariant.held;
}
