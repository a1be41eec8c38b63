-- Between two lines: the bounds, what no call changes, the counts of faults, and what was read and written.
use Rattle.std.proofs.Common.{◌≡◌, ◌≤◌, ◌+◌, ◌-◌, ℕ, List, Some}
use Rattle.dz_script.specs.Lines.{ahead}
use Rattle.dz_script.specs.declared.lines.TheConstants.{LIMIT}
use Rattle.dz_script.proofs.RunLemmas.{Mid}
use Rattle.dz_script.proofs.run.run_script.Given as goal

abbrev pub invariant-lines : goal.invariant-lines
invariant-lines g l =
    (l.used ≤ LIMIT)
    × (l.number ≤ l.used + 1)
    × (g.T.Script.beside l.script ≡ g.T.Script.beside l.fn.script)
    × (g.S.Source.faults l.input ≡ g.S.Source.faults l.fn.input)
    × (g.T.Script.faults l.script ≡ g.T.Script.faults l.fn.script)
    × ((octets : List ℕ) → g.S.Source.left l.fn.input ≡ Some octets
    → Mid g.T.Script.rules (g.T.Script.state l.fn.script) octets (g.T.Script.state l.script) l.number l.used
    (ahead l.window (g.S.Source.left l.input)) (g.T.Script.held l.fn.script) (g.T.Script.held l.script))

abbrev pub decreases-lines : goal.decreases-lines
decreases-lines g l = LIMIT - l.used
