use Rattle.std.proofs.Common.{ap, ◌∙◌, arith, ◌+◌, ◌++◌, take, drop, length}
use Rattle.dz_message.proofs.PieceLemmas.{holds_end}
use Rattle.dz_message.proofs.piece.Piece.end.Goals as goal

pub returns-clause-octets : goal.returns-clause-octets
returns-clause-octets c = λ id questions answers holds.
    holds_end c.args.self c.args.out.now c.put_at.new.out id c.self.inside.size
    c.self.inside.count questions answers holds c.self.view_is (c.put_at.ensures
    ∙ ap (λ xs. take 6 c.args.out.now ++ (xs ++ drop (6 + length xs) c.args.out.now)) c.two.ensures)
    (omega (arith, c.self.invariant.short)) c.self.invariant.long
