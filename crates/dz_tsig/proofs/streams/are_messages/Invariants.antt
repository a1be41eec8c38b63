use Rattle.std.proofs.Common.{◌-◌, length}
use Rattle.dz_tsig.specs.inner.Streams.{ReadsOn}
use Rattle.dz_tsig.proofs.streams.are_messages.Given as goal

abbrev pub invariant-messages : goal.invariant-messages
invariant-messages l = ReadsOn l.octets l.at

abbrev pub decreases-messages : goal.decreases-messages
decreases-messages l = length l.octets - l.at
