use Rattle.std.proofs.Common.{◌≡◌, ◌+◌, ◌<◌, ◌≤◌, ℕ, length, take, map}
use Rattle.std.specs.List.{All}
use Rattle.dz_timer.specs.inner.Tournament.{node, moments, wait_of, IsSoon}
use Rattle.dz_timer.proofs.tournament.leaves.Given as goal

abbrev pub invariant-undecided : goal.invariant-undecided
invariant-undecided l = (length l.nodes.items ≡ l.counter) × (l.counter ≤ length l.values)

abbrev pub invariant-moments : goal.invariant-moments
invariant-moments l = record {
  size : length l.nodes.items ≡ length l.values + l.place;
  own : (j : ℕ) → j < l.place → (node l.nodes.items (length l.values + j)).place ≡ j;
  kept : moments l.nodes.items (length l.values) ≡ map wait_of (take l.place l.values);
  soon : All IsSoon (take l.place l.values);
}
