use Rattle.std.proofs.Common.{length, ◌-◌}
use Rattle.dz_outward.specs.inner.Filled.{AddsUp}
use Rattle.dz_outward.proofs.outgoing.add_others.Given as goal

abbrev pub invariant-records : goal.invariant-records
invariant-records l = AddsUp l.fn.piece l.fn.out l.piece l.out l.records l.fn.place l.place

abbrev pub decreases-records : goal.decreases-records
decreases-records l = length l.records - l.place
