use Rattle.dz_message.proofs.PieceLemmas.{holds_bare}
use Rattle.dz_message.proofs.piece.Piece.begin_bare.Goals as goal

pub returns-clause-holds : goal.returns-clause-holds
returns-clause-holds c = holds_bare c.args.id c.put_head.new.out c.put_head.ensures
