use Rattle.std.proofs.Common.{length}
use Rattle.std.specs.Vec.Iter.{into_iter_items}
use Rattle.dz_xfr.specs.Feeding.{IsOpen}
use Rattle.dz_ixfr.specs.Incremental.{IsIncremental, Blames}
use Rattle.dz_low_tests.proofs.ixfr.feed_messages.Given as goal

abbrev pub invariant-messages : goal.invariant-messages
invariant-messages l = IsOpen (IsIncremental l.differences.held) (Blames l.differences.held.apex) l.differences.fed

abbrev pub decreases-messages : goal.decreases-messages
decreases-messages l = length (into_iter_items l.rest)
