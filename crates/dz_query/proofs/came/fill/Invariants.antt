use Rattle.std.proofs.Common.{◌≡◌, ◌≤◌, ◌-◌, length, take}
use Rattle.dz_io.specs.Device.{Gains}
use Rattle.dz_query.proofs.came.fill.Given as goal

abbrev pub invariant-pieces : goal.invariant-pieces
invariant-pieces g l =
    (l.at ≤ length l.buffer)
    × Gains (take l.at l.buffer) (g.S.Source.given l.fn.source) (g.S.Source.given l.source)
    × (g.S.Source.beside l.source ≡ g.S.Source.beside l.fn.source)
    × (g.S.Source.faults l.fn.source ≤ g.S.Source.faults l.source)

abbrev pub decreases-pieces : goal.decreases-pieces
decreases-pieces g l = length l.buffer - l.at
