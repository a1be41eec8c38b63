-- Each record ends within the file.
use Rattle.std.proofs.Common.{◌-◌}
use Rattle.dz_edge.proofs.survey.look_over.Given as goal

abbrev pub decreases-records : goal.decreases-records
decreases-records l = l.length - l.found.all
