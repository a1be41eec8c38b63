use Rattle.std.proofs.Common.{◌≡◌, ◌≤◌, ◌-◌, length, None}
use Rattle.dz_io.specs.Device.{Gains}
use Rattle.dz_message.specs.Frame.{messages_in}
use Rattle.dz_name.specs.declared.dns.TheConstants.{TRANSFER_OCTETS}
use Rattle.dz_take.specs.Outcome.{decided}
use Rattle.dz_fetch.specs.inner.Frames.{AreFrames}
use Rattle.dz_fetch.proofs.take.read_messages.Given as goal

abbrev pub invariant-frames : goal.invariant-frames
invariant-frames g l = record {
  transfer : l.taking.transfer ≡ l.fn.taking.transfer;
  frames : AreFrames l.taking.octets;
  fits : length l.taking.octets ≤ TRANSFER_OCTETS;
  undecided : decided l.taking.transfer (messages_in l.taking.octets) ≡ None;
  gains : Gains l.taking.octets (g.S.Source.given l.fn.source) (g.S.Source.given l.source);
  beside : g.S.Source.beside l.source ≡ g.S.Source.beside l.fn.source;
  count : g.S.Source.faults l.source ≡ g.S.Source.faults l.fn.source;
}

abbrev pub decreases-frames : goal.decreases-frames
decreases-frames g l = TRANSFER_OCTETS - length l.taking.octets
