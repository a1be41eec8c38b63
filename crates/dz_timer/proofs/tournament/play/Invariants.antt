use Rattle.std.proofs.Common.{◌≡◌, ◌+◌, ◌≤◌, length}
use Rattle.dz_timer.specs.inner.Tournament.{AreOwn, moments}
use Rattle.dz_timer.proofs.TournamentLemmas.{AreDecidedFrom}
use Rattle.dz_timer.proofs.tournament.play.Given as goal

abbrev pub invariant-loop-at : goal.invariant-loop-at
invariant-loop-at l = record {
  below : l.at ≤ l.count;
  size : length l.nodes.items ≡ l.count + l.count;
  own : AreOwn l.nodes.items l.count;
  decided : AreDecidedFrom l.nodes.items l.count l.at;
  kept : moments l.nodes.items l.count ≡ moments l.initial.nodes.items l.count;
}
