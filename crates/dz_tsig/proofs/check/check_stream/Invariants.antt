use Rattle.std.proofs.Common.{◌-◌, drop, length}
use Rattle.dz_message.specs.Frame.{messages_in}
use Rattle.dz_tsig.specs.Checking.{first_state}
use Rattle.dz_tsig.specs.inner.Chains.{IsOn}
use Rattle.dz_tsig.proofs.check.check_stream.Given as goal

abbrev pub invariant-messages : goal.invariant-messages
invariant-messages l =
    IsOn l.key l.moment (messages_in l.octets) (messages_in (drop l.at l.octets)) (first_state l.request_mac) l.chain

abbrev pub decreases-messages : goal.decreases-messages
decreases-messages l = length l.octets - l.at
