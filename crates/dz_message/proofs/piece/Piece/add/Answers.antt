use Rattle.std.specs.Prelude.{◌==◌}
use Rattle.std.proofs.Common.{◌≡◌, true, length, ap, sym, ◌∙◌, arith}
use Rattle.std.proofs.lemmas.Bool.Decides.{nat_tests}
use Rattle.dz_message.proofs.PieceLemmas.{record_short, record_size, holds_more}
use Rattle.dz_message.specs.Piece.{has_room, PieceState}
use Rattle.dz_message.proofs.piece.Piece.add.Goals as goal

pub has_room-requires : goal.has_room-requires
has_room-requires c = omega (
  arith,
  record_short c.args.rr.now c.octets-octets.ensures.valid,
  ap (λ xs. length xs) c.octets-octets.ensures.octets,
)

pub invariant_of-self : goal.invariant_of-self
invariant_of-self c =
    let n = record_size c.args.rr.now in
    let m = ap (λ xs. length xs) c.octets-octets.ensures.octets in
    let room : has_room (c.self.inside.count == 0) c.self.inside.size (length c.octets-octets.result.now) ≡ true =
    ap (λ (p : PieceState). has_room (p.count == 0) p.size (length c.octets-octets.result.now)) c.self.view_is
    ∙ sym c.has_room.ensures ∙ c.if-not-has_room.false in
    record {
      long = omega arith;
      short = grind (arith, nat_tests, room);
      few = omega arith;
    }

pub returns-clause-holds : goal.returns-clause-holds
returns-clause-holds c = λ id questions answers holds.
    holds_more c.args.self.now c.args.out.now c.put_at.new.out c.octets-octets.result.now id c.self.inside.size
    c.self.inside.count questions answers c.args.rr.now holds c.self.view_is c.octets-octets.ensures.octets
    c.put_at.ensures (omega (arith, c.self.invariant.short))
