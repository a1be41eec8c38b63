-- The piece is what was taken from the window's front.
use Rattle.std.proofs.Common.{ℕ, take, length-take, arith, ap, ◌∙◌, ◌++◌}
use Rattle.dz_script.proofs.WindowLemmas.{split_window, same_piece}
use Rattle.dz_script.proofs.window.Window.move_piece.Goals as goal

pub returns-clause-ok : goal.returns-clause-ok
returns-clause-ok c = (
  take c.first_piece-kind.result.1 c.args.self.now,
  c.in_ok-extend_from_slice.ensures.items
      ∙ ap (λ held. c.args.line.now.items ++ take c.first_piece-kind.result.1 held) c.octets-2.ensures,
  split_window c.args.self.now c.octets.result.now c.self.inside.octets c.self.inside.at c.self.inside.end
      c.first_piece-kind.result.1 c.self.view_is c.octets.ensures (omega arith) c.first_piece-kind.ensures.within,
  (omega (arith, length-take {A = ℕ}, c.first_piece-kind.ensures.room)),
  same_piece c.first_piece-kind.result.0 c.args.room c.first_piece-kind.result.1 c.octets.result.now c.args.self.now
      c.octets.ensures c.first_piece-kind.ensures.kind,
)
