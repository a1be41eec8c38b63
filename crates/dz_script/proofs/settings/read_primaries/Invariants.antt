use Rattle.std.proofs.Common.{◌≡◌, ◌+◌, ◌≤◌, length}
use Rattle.dz_script.specs.Fields.{parts_of}
use Rattle.dz_script.specs.Settings.{peers_of}
use Rattle.dz_script.specs.inner.Left.{with_peers}
use Rattle.dz_script.proofs.settings.read_primaries.Given as goal

abbrev pub invariant-parts : goal.invariant-parts
invariant-parts l = record {
  all : peers_of (parts_of 44 l.text) ≡ with_peers l.peers.items (peers_of l.parts);
  count : length (parts_of 44 l.text) ≡ length l.peers.items + length l.parts;
  few : length l.peers.items ≤ 8;
}

abbrev pub decreases-parts : goal.decreases-parts
decreases-parts l = length l.parts
