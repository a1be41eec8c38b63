use Rattle.std.proofs.Common.{length}
use Rattle.dz_store.specs.inner.Matching.{IsWriting}
use Rattle.dz_store.proofs.payload.push_stream.Given as goal

abbrev pub invariant-messages : goal.invariant-messages
invariant-messages l = IsWriting l.initial.out.items l.out.items l.initial.outgoing l.outgoing

abbrev pub decreases-messages : goal.decreases-messages
decreases-messages l = length l.outgoing
