use Rattle.dz_message.proofs.PieceLemmas.{holds_asked}
use Rattle.dz_message.proofs.piece.Piece.begin_asked.Goals as goal

pub returns-clause-holds : goal.returns-clause-holds
returns-clause-holds c = holds_asked c.args.id c.put_question-size.result c.args.question.now c.put_head.new.out
    c.put_question-size.new.out c.put_head.ensures c.put_question-size.ensures.place c.put_question-size.ensures.octets
