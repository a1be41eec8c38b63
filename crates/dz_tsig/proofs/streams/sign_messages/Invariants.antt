use Rattle.std.proofs.Common.{◌-◌, drop, length}
use Rattle.dz_message.specs.Frame.{messages_in}
use Rattle.dz_tsig.specs.Streams.{signed_messages}
use Rattle.dz_tsig.specs.inner.Streams.{AreLeft, SignsOn}
use Rattle.dz_tsig.proofs.streams.sign_messages.Given as goal

abbrev pub invariant-messages : goal.invariant-messages
invariant-messages l = record {
  signs : SignsOn l.key l.moment (signed_messages l.key l.moment l.request_mac (messages_in l.octets)) l.is_first
      l.prior (messages_in (drop l.at l.octets)) l.out.items;
  left : AreLeft (messages_in (drop l.at l.octets));
}

abbrev pub decreases-messages : goal.decreases-messages
decreases-messages l = length l.octets - l.at
