use Rattle.std.proofs.Common.{◌≡◌}
use mathlib.Core.List.{IsPrefix}
use Rattle.dz_provision.proofs.shared.LockedProvisionerJobs.fail.Given as goal

abbrev pub invariant-locks : goal.invariant-locks
invariant-locks g l = (l.reading ≡ record l.initial.reading { list = l.reading.list })
    × IsPrefix l.initial.reading.list l.reading.list
