use Rattle.std.proofs.Common.{length}
use Rattle.dz_settings.proofs.limits.+has_name_twice.Given as goal

abbrev pub decreases-has_name_twice : goal.decreases-has_name_twice
decreases-has_name_twice l = length l.catalogs.now
