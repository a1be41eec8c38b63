use Rattle.std.proofs.Common.{rules}
use Rattle.dz_report.specs.Lines.{aftermath_lines}
use Rattle.dz_report.proofs.verdict.put_aftermath.Goals as goal

pub returns-in-Member : goal.returns-in-Member
unfolding aftermath_lines
returns-in-Member c = search rules

pub returns-in-Broken : goal.returns-in-Broken
unfolding aftermath_lines
returns-in-Broken c = search rules

pub returns-in-Changes : goal.returns-in-Changes
unfolding aftermath_lines
returns-in-Changes c = search rules
