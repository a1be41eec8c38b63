use Rattle.std.proofs.Common.{◌≡◌, true, length, ap, ◌∙◌, arith, []}
use Rattle.std.specs.Prelude.{◌==◌}
use Rattle.std.proofs.lemmas.Bool.Decides.{nat_tests}
use Rattle.dz_record.specs.Record.{record_octets}
use Rattle.dz_message.specs.Piece.{has_room, PieceState}
use Rattle.dz_message.proofs.PieceLemmas.{size_begun}
use Rattle.dz_message.proofs.packed.begin_with.Goals as goal

pub returns : goal.returns
returns c =
    let count = ap (λ (p : PieceState). p.count) c.begin-next.ensures.holds.state in
    let size = ap (λ (p : PieceState). p.size) c.begin-next.ensures.holds.state ∙ size_begun [] in
    let room : has_room (c.begin-next.result.count == 0) c.begin-next.result.size
    (length (record_octets c.args.rr.now)) ≡ true = grind (arith, nat_tests, c.requires.fits) in
    let next = c.add.ensures.holds c.args.id [] [] c.begin-next.ensures.holds in
    rw (c.add.ensures.room ∙ room) at next
