use Rattle.std.proofs.Common.{◌≡◌, ◌-◌, length, None}
use Rattle.dz_message.specs.Frame.{messages_in}
use Rattle.dz_take.specs.Outcome.{decided}
use Rattle.dz_store.specs.inner.Reading.{IsFront}
use Rattle.dz_store.proofs.read.read_frames.Given as goal

abbrev pub invariant-frames : goal.invariant-frames
invariant-frames l = record {
  transfer : l.taking.transfer ≡ l.fn.taking.transfer;
  front : IsFront l.octets l.taking.octets l.at;
  undecided : decided l.taking.transfer (messages_in l.taking.octets) ≡ None;
}

abbrev pub decreases-frames : goal.decreases-frames
decreases-frames l = length l.octets - l.at
