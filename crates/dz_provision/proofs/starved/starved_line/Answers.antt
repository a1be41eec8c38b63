use Rattle.std.proofs.Common.{rules}
use Rattle.dz_report.specs.Lines.{verdict_lines}
use Rattle.dz_provision.proofs.starved.starved_line.Goals as goal

pub returns : goal.returns
unfolding verdict_lines
returns c = search rules
