use Rattle.std.proofs.Common.{◌≡◌, ◌+◌, ◌/◌, ◌<◌, ◌≤◌, length}
use Rattle.dz_timer.specs.inner.Tournament.{AreOwn, AreDecidedBut, moments}
use Rattle.dz_timer.proofs.tournament.climb.Given as goal

abbrev pub invariant-loop-at : goal.invariant-loop-at
invariant-loop-at l = record {
  some : 1 ≤ l.at;
  below : l.at < l.count + l.count;
  size : length l.nodes.items ≡ l.count + l.count;
  own : AreOwn l.nodes.items l.count;
  decided : AreDecidedBut l.nodes.items l.count (l.at / 2);
  kept : moments l.nodes.items l.count ≡ moments l.initial.nodes.items l.count;
}

abbrev pub decreases-loop-at : goal.decreases-loop-at
decreases-loop-at l = l.at
