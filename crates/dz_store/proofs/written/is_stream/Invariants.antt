use Rattle.std.proofs.Common.{length}
use Rattle.dz_store.specs.inner.Matching.{IsMatching}
use Rattle.dz_store.proofs.written.is_stream.Given as goal

abbrev pub invariant-messages : goal.invariant-messages
invariant-messages l = IsMatching l.octets l.rest l.initial.outgoing l.outgoing

abbrev pub decreases-messages : goal.decreases-messages
decreases-messages l = length l.outgoing
