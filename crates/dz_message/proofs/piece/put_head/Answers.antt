use Rattle.std.proofs.Common.{ap, ◌∙◌, arith, take}
use Rattle.dz_message.specs.Piece.{head_octets}
use Rattle.dz_message.proofs.PieceLemmas.{front_put}
use Rattle.dz_message.proofs.piece.put_head.Goals as goal

pub returns : goal.returns
unfolding head_octets
returns c = ap (λ xs. take 12 xs) c.put_at.ensures
    ∙ front_put 0 12 c.write_header.new.out c.args.out.now (omega arith) (omega arith) ∙ c.write_header.ensures
