use Rattle.std.proofs.Common.{◌≡◌, None}
use Rattle.dz_message.specs.Frame.{messages_in}
use Rattle.dz_take.specs.Outcome.{decided}
use Rattle.dz_tests.proofs.take.feed_times.Given as goal

abbrev pub invariant-messages : goal.invariant-messages
invariant-messages g l = decided l.taking.transfer (messages_in l.taking.octets) ≡ None
