use Rattle.std.proofs.Common.{rules}
use Rattle.dz_zonemd.specs.Standing.{standing}
use Rattle.dz_zonemd.proofs.verification.counted_standing.Goals as goal

pub returns-then-is_empty-clause-value : goal.returns-then-is_empty-clause-value
unfolding standing
returns-then-is_empty-clause-value g c = search rules

pub returns-then-is_verified-clause-value : goal.returns-then-is_verified-clause-value
unfolding standing
returns-then-is_verified-clause-value g c = search rules

pub returns-then-some_supported-clause-value : goal.returns-then-some_supported-clause-value
unfolding standing
returns-then-some_supported-clause-value g c = search rules

pub returns-else-some_supported-clause-value : goal.returns-else-some_supported-clause-value
unfolding standing
returns-else-some_supported-clause-value g c = search rules
