-- What the piece that was moved is to the line.
use Rattle.std.proofs.Common.{arith, ◌∙◌}
use Rattle.dz_script.proofs.LineLemmas.{closes, goes_on}
use Rattle.dz_script.proofs.lines.next_line.Goals as goal

pub returns-in-Ok-Closed-clause-takes : goal.returns-in-Ok-Closed-clause-takes
returns-in-Ok-Closed-clause-takes g c =
    closes _ _ _ _ _ _ _ _ _ c.pieces.invariant.0 c.in-Ok.ensures.ahead
    (rw c.in-Ok-Closed.field-0-is at c.in-Ok-Closed.ensures.ok) (omega arith)

pub pieces-preserved : goal.pieces-preserved
pieces-preserved g c = (
  goes_on _ _ _ _ _ _ _ _ _ c.pieces.invariant.0 c.in-Ok.ensures.ahead
      (rw c.in-Ok-Open.field-0-is at c.in-Ok-Open.ensures.ok) (omega arith),
  c.in-Ok.ensures.cause.kept ∙ c.pieces.invariant.1,
)
