use Rattle.std.proofs.Common.{rules}
use Rattle.dz_script.specs.Line.{line_of}
use Rattle.dz_script.proofs.line.read_line.Goals as goal

pub returns-then-is_skipped : goal.returns-then-is_skipped
unfolding line_of
returns-then-is_skipped c = search rules

pub returns-in-Ok-Some : goal.returns-in-Ok-Some
unfolding line_of
returns-in-Ok-Some c = search rules

pub returns-in-Ok-None : goal.returns-in-Ok-None
unfolding line_of
returns-in-Ok-None c = search rules
