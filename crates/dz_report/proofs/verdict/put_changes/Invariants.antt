use Rattle.std.proofs.Common.{◌≡◌, ◌++◌, drop}
use Rattle.std.specs.List.{flat_map}
use Rattle.dz_report.specs.Lines.{change_line}
use Rattle.dz_report.proofs.verdict.put_changes.Given as goal

abbrev pub invariant-changes : goal.invariant-changes
invariant-changes l =
    l.text.items ++ flat_map change_line (drop l.place l.changes)
    ≡ l.fn.text.items ++ flat_map change_line l.changes
