-- This much of the line was read, and the source's count of faults is unchanged.
use Rattle.std.proofs.Common.{◌≡◌, ◌-◌, length}
use Rattle.dz_script.specs.Lines.{ahead, StopsWithin}
use Rattle.dz_script.specs.declared.lines.TheConstants.{LIMIT}
use Rattle.dz_script.proofs.lines.next_line.Given as goal

abbrev pub invariant-pieces : goal.invariant-pieces
invariant-pieces g l = StopsWithin l.used l.line.items (ahead l.fn.window (g.S.Source.left l.fn.source))
    (ahead l.window (g.S.Source.left l.source)) × (g.S.Source.faults l.source ≡ g.S.Source.faults l.fn.source)

abbrev pub decreases-pieces : goal.decreases-pieces
decreases-pieces g l = LIMIT - l.used - length l.line.items
